use Rattle.std.proofs.Common.{◌≡◌, ◌∙◌, ℕ, ◌<◌, List, get_or, ap, subst, sym, arith}
use Rattle.std.specs.Prelude.{length, set}
use Rattle.std.proofs.lemmas.List.{length-set}
use Rattle.timetable.specs.Links.{list_of}
use Rattle.timetable.specs.Day.{types_of}
use Rattle.answer_check.specs.Verdicts.{IsCompOf}
use Rattle.answer_check.proofs.Admitting.{one_more, planned}
use Rattle.answer_check.proofs.answered_plan.picks_of_plan.Goals as goal

pub loop-trip-preserved : goal.loop-trip-preserved
loop-trip-preserved c =
    let now : c.set.new.self ≡ set c.loop-trip.picks c.loop-trip.trip c.comp_of.result = c.set.ensures in
    let below : c.loop-trip.trip < length c.loop-trip.picks =
    omega (arith, c.loop-trip-test.true, c.trips-trip-end.ensures.value, c.loop-trip.invariant.0) in (
      ap length now ∙ length-set c.loop-trip.picks c.loop-trip.trip c.comp_of.result ∙ c.loop-trip.invariant.0,
      λ t upto. subst (λ (picks : List ℕ).
          IsCompOf c.args.instance.now (types_of c.args.instance.now (list_of c.args.plan.now t)) (get_or picks t 0)) (sym now)
          (one_more c.args.instance.now c.args.plan.now c.loop-trip.picks c.loop-trip.trip c.comp_of.result below
          c.loop-trip.invariant.1 c.comp_of.ensures t upto),
    )

pub returns : goal.returns
returns c =
    planned c.args.instance.now c.args.plan.now c.loop-trip.picks c.requires.runs c.loop-trip.invariant.0
    (λ t below. c.loop-trip.invariant.1 t (omega (arith, below, c.loop-trip-test.false, c.trips-trip-end.ensures.value)))
