-- The better one of what is offered and the best so far, and what an answer offers.
use Rattle.std.proofs.Common.{◌≡◌, ◌∙◌, ℕ, zero, suc, ◌+◌, ◌*◌, ◌<◌, ◌^◌, List, length, Bool, true, false, refl, sym, ap, subst, arith}
use Rattle.std.proofs.Common.{Option, Some, None, if◌then◌else◌, int_lt}
use Rattle.std.specs.Prelude.{ℤ, pos, negsuc, ◌+ℤ◌, ◌≤ℤ◌, MatchOption}
use Rattle.std.proofs.lemmas.Int.{ints}
use Rattle.timetable.specs.Cost.{plan_cost}
use Rattle.timetable.specs.Day.{Day}
use Rattle.rules.specs.declared.heads.Head.{Head}
use Rattle.rules.specs.declared.heads.Head.TheVariants.{Optimal, Infeasible, Bounded, BoundedPlan}
use Rattle.answer_text.specs.Limits.{IsAmount, IsHead}
use Rattle.answer_check.specs.Headline.{IsTrueOf}
use Rattle.timetable.specs.Accepted.{IsSoundDay}
use Rattle.fleets.specs.Fleets.{FitsDay, IsNowhereAbove, own_fleet, with_fleet}
use Rattle.fleets.proofs.OwnFleets.{own_fleet_fits}
use Rattle.fleets.proofs.Sizes.{smaller_fleets_fit}
use Rattle.fleet_boxes.specs.Prices.{fleet_cost}
use Rattle.fleet_check.specs.declared.found.Chosen.{Chosen}
use Rattle.fleet_check.specs.Chosen.{DoesRun, RunsAtPrice}
use Rattle.fleet_check.specs.Verdicts.{price_said}
use Rattle.fleet_size.specs.declared.offers.Best.{Best}
use Rattle.fleet_size.specs.Found.{IsPricedUpTo}
use Rattle.fleet_size.specs.Slots.{IsBest, IsNoDearer, IsOffer, IsTaken, better_of, price_in}

lower : (a b : ℤ) → int_lt a b ≡ true → a ≤ℤ b
lower a b is = omega (arith, ints, is)

pub not_lower : (a b : ℤ) → int_lt a b ≡ false → b ≤ℤ a
not_lower a b is = omega (arith, ints, is)

pub level : (a : ℤ) → a ≤ℤ a
level a = omega (arith, ints)

between : (a b c : ℤ) → a ≤ℤ b → b ≤ℤ c → a ≤ℤ c
between a b c low high = omega (arith, ints)

pub best_is_kept : (day : Day) (prices : List ℕ) (offered : Best) (old : Option Best) → IsBest day prices old → RunsAtPrice day prices (Some offered.chosen) offered.price.0
    → IsBest day prices (better_of offered old)
best_is_kept day prices offered None is runs = runs
best_is_kept day prices offered (Some best) is runs = at (int_lt offered.price.0 best.price.0)
  where
    at : (b : Bool) → IsBest day prices (if b then Some offered else Some best)
    at true = runs
    at false = is

pub kept_is_no_dearer : (offered : Best) (old : Option Best) → IsNoDearer (price_in old) (price_in (better_of offered old))
kept_is_no_dearer offered None = tt
kept_is_no_dearer offered (Some best) = at (int_lt offered.price.0 best.price.0) refl
  where
    at : (b : Bool) → int_lt offered.price.0 best.price.0 ≡ b → IsPricedUpTo (price_in (if b then Some offered else Some best)) best.price.0
    at true less = lower offered.price.0 best.price.0 less
    at false not_less = level best.price.0

pub kept_is_priced : (offered : Best) (old : Option Best) (most : ℤ) → offered.price.0 ≤ℤ most → IsPricedUpTo (price_in (better_of offered old)) most
kept_is_priced offered None most few = few
kept_is_priced offered (Some best) most few = at (int_lt offered.price.0 best.price.0) refl
  where
    at : (b : Bool) → int_lt offered.price.0 best.price.0 ≡ b → IsPricedUpTo (price_in (if b then Some offered else Some best)) most
    at true less = few
    at false not_less = between best.price.0 offered.price.0 most (not_lower offered.price.0 best.price.0 not_less) few

pub plan_taken : (prices fleet : List ℕ) (head : Head) (price : Option ℤ) (cost : ℤ) → price_said head ≡ Some cost → IsPricedUpTo price (cost +ℤ pos (fleet_cost prices fleet)) → IsTaken prices fleet head price
plan_taken prices fleet head price cost some few = subst (λ (said : Option ℤ). MatchOption said (Unit {0}) (λ cost. IsPricedUpTo price (cost +ℤ pos (fleet_cost prices fleet)))) (sym some) few

some_is : (a b : ℤ) → Some a ≡ Some b → a ≡ b
some_is a b same = cc

never : (a : ℤ) → None ≡ Some a → ⊥
never a same = cc

-- the plan of an answer is one that may be offered
pub answer_offers : (day : Day) (fleet : List ℕ) (head : Head) (runs : List (List ℕ)) (cost : ℤ) → IsNowhereAbove fleet (own_fleet day) → IsTrueOf (with_fleet fleet day) head runs → IsHead head
    → price_said head ≡ Some cost → IsOffer day fleet runs cost
answer_offers day fleet (Optimal price) runs cost below holds amounts said =
    subst (λ (c : ℤ). IsOffer day fleet runs c) (some_is price.0 cost said) (record { within = below; runs = holds.0.does_run; costs = holds.0.costs; amount = amounts })
answer_offers day fleet Infeasible runs cost below holds amounts said = absurd (never cost said)
answer_offers day fleet (Bounded bound) runs cost below holds amounts said = absurd (never cost said)
answer_offers day fleet (BoundedPlan bound price) runs cost below holds amounts said =
    subst (λ (c : ℤ). IsOffer day fleet runs c) (some_is price.0 cost said) (record { within = below; runs = holds.0.does_run; costs = holds.0.costs; amount = amounts.1 })

-- ---- sums

pub fleet_fits : (day : Day) (fleet : List ℕ) → IsSoundDay day → IsNowhereAbove fleet (own_fleet day) → FitsDay day fleet
fleet_fits day fleet sound below = smaller_fleets_fit day fleet (own_fleet day) (own_fleet_fits day sound.limits.units.few) below

-- there is a price where there is a place
pub some_price : (day : Day) (prices fleet : List ℕ) → FitsDay day fleet → length prices ≡ length day.types → 0 < length fleet → 0 < length prices
some_price day prices fleet fits same some = at (length day.types) refl
  where
    at : (types : ℕ) → length day.types ≡ types → 0 < length prices
    at zero none =
        let places : length fleet ≡ length day.stations * 0 = fits.each ∙ ap (λ (n : ℕ). length day.stations * n) none in
        absurd (omega (arith, places, some))
    at (suc types) is = omega (arith, is, same)

pub small_units : (amount : ℤ) (cost : ℕ) → amount ≡ pos cost → cost < 2 ^ 64 → IsAmount amount
small_units amount cost is few = subst IsAmount (sym is) (omega (arith, few))

small_below : (cost : ℕ) (most : ℤ) → pos cost ≤ℤ most → IsAmount most → IsAmount (pos cost)
small_below cost (pos m) low small = omega (arith, ints, low, small)
small_below cost (negsuc m) low small = absurd (omega (arith, ints, low))

pub small_cost : (amount : ℤ) (cost : ℕ) (most : ℤ) → amount ≡ pos cost → amount ≤ℤ most → IsAmount most → IsAmount amount
small_cost amount cost most is low small = subst IsAmount (sym is) (small_below cost most (subst (λ (a : ℤ). a ≤ℤ most) is low) small)

joined : (a b c : ℤ) (x y : ℕ) → a ≡ pos x → b ≡ pos y → c ≡ a +ℤ b → c ≡ pos (x + y)
joined a b c x y first second sum = omega (arith, ints, first, second, sum)

-- a chosen plan with what it costs
pub runs_at_price : (day : Day) (prices : List ℕ) (chosen : Chosen) (cost units price : ℤ) → DoesRun day chosen → cost ≡ pos (plan_cost (with_fleet chosen.stock day) chosen.plan)
    → units ≡ pos (fleet_cost prices chosen.stock) → price ≡ cost +ℤ units → RunsAtPrice day prices (Some chosen) price
runs_at_price day prices chosen cost units price runs is_cost is_units is_price = record {
  one = chosen;
  is = refl;
  runs = runs;
  costs = joined cost units price (plan_cost (with_fleet chosen.stock day) chosen.plan) (fleet_cost prices chosen.stock) is_cost is_units is_price;
}

pub whole_runs : (day : Day) (prices fleet stock : List ℕ) (plan : List (List ℕ)) (cost units price : ℤ) → IsOffer day fleet plan cost → stock ≡ fleet → units ≡ pos (fleet_cost prices fleet) → price ≡ cost +ℤ units
    → RunsAtPrice day prices (Some (record { stock = stock; plan = plan })) price
whole_runs day prices fleet stock plan cost units price offer same is_units is_price =
    subst (λ (some : List ℕ). RunsAtPrice day prices (Some (record { stock = some; plan = plan })) price) (sym same)
    (runs_at_price day prices (record { stock = fleet; plan = plan }) cost units price (record { fleet = offer.within; does_run = offer.runs }) offer.costs is_units is_price)

pub no_more : (price whole cost units most : ℤ) → price ≤ℤ whole → whole ≡ cost +ℤ units → units ≡ most → price ≤ℤ (cost +ℤ most)
no_more price whole cost units most low sum same = omega (arith, ints, low, sum, same)

-- the price of a trimmed plan
pub matched : {X : Type 0} (A : Type 0) (P : X → Type 0) (found : Option X) (x : X) → found ≡ Some x → MatchOption found A P → P x
matched {X} A P found x is known = subst (λ (one : Option X). MatchOption one A P) is known
