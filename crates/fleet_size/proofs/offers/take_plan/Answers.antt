use Rattle.std.proofs.Common.{◌≡◌, ◌∙◌, List, Option, Some, ap, subst, sym}
use Rattle.std.specs.Prelude.{ℕ, pos, ◌+ℤ◌, option_map}
use Rattle.timetable.specs.Day.{Day}
use Rattle.answer_check.specs.Headline.{IsTrueOf}
use Rattle.fleet_boxes.specs.Prices.{fleet_cost}
use Rattle.fleet_check.specs.Verdicts.{price_said}
use Rattle.rail_base.specs.declared.numbers.Money.{Money}
use Rattle.fleet_size.specs.declared.offers.Best.{Best}
use Rattle.fleet_size.specs.Found.{IsPricedUpTo}
use Rattle.fleet_size.specs.Slots.{IsBest, IsNoDearer, IsOffer, price_in}
use Rattle.fleet_size.proofs.Offering.{answer_offers, best_is_kept, kept_is_no_dearer, kept_is_priced, plan_taken}
use Rattle.fleet_size.proofs.offers.take_plan.Goals as goal

pub best_of-requires-clause-offer : goal.best_of-requires-clause-offer
best_of-requires-clause-offer c =
    let said : price_said c.args.answer.head ≡ Some c.in-Some.cost.0 =
    sym c.cost_said.ensures ∙ ap (option_map (λ (cost : Money). cost.0)) c.in-Some.is in
    subst (λ (plan : List (List ℕ)). IsOffer c.args.tables.instance.now c.args.answer.fleet.now plan c.in-Some.cost.0)
    (sym (c.of.ensures ∙ c.into_items.ensures))
    (answer_offers c.args.tables.instance.now c.args.answer.fleet.now c.args.answer.head c.args.answer.runs
    c.in-Some.cost.0 c.requires.fleet
    (subst (λ (day : Day). IsTrueOf day c.args.answer.head c.args.answer.runs) c.requires.day c.requires.holds)
    c.requires.amounts said)

pub returns : goal.returns
returns c =
    let said : price_said c.args.answer.head ≡ Some c.in-Some.cost.0 =
    sym c.cost_said.ensures ∙ ap (option_map (λ (cost : Money). cost.0)) c.in-Some.is in
    let offered : Best = c.in_ok-offered.offered in
    record {
      best = subst (IsBest c.args.tables.instance.now c.args.prices.now) (sym c.keep_better.ensures)
          (best_is_kept c.args.tables.instance.now c.args.prices.now offered c.args.best.now c.requires.best c.in_ok-offered.ensures.runs);
      no_dearer = subst (λ (best : Option Best). IsNoDearer (price_in c.args.best.now) (price_in best)) (sym c.keep_better.ensures)
          (kept_is_no_dearer offered c.args.best.now);
      taken = plan_taken c.args.prices.now c.args.answer.fleet.now c.args.answer.head (price_in c.keep_better.new.best) c.in-Some.cost.0 said
          (subst (λ (best : Option Best). IsPricedUpTo (price_in best) (c.in-Some.cost.0 +ℤ pos (fleet_cost c.args.prices.now c.args.answer.fleet.now))) (sym c.keep_better.ensures)
          (kept_is_priced offered c.args.best.now (c.in-Some.cost.0 +ℤ pos (fleet_cost c.args.prices.now c.args.answer.fleet.now)) c.in_ok-offered.ensures.cheap));
    }
