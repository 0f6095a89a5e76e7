-- What a fleet costs: one unit more costs its price, and nowhere more units cost no more.
use Rattle.std.proofs.Common.{◌≡◌, ◌∙◌, ℕ, zero, suc, ◌+◌, ◌*◌, ◌<◌, ◌≤◌, List, [], ◌∷◌, length, refl, ap, arith}
use Rattle.std.specs.Prelude.{slice_index, set, replicate}
use Rattle.std.proofs.Math.Nat.{mul-le-mul_right}
use Rattle.std.proofs.lemmas.Nat.{mod-mul-add}
use Rattle.fleets.specs.Fleets.{IsNowhereAbove}
use Rattle.fleet_boxes.specs.Prices.{cost_from, fleet_cost, price_at}
use Rattle.fleet_boxes.specs.Laws.{FleetsCostTheirUnits, LargerFleetsCostNoLess}

cost_grows : (prices : List ℕ) (place : ℕ) (small large : List ℕ) → IsNowhereAbove small large → cost_from prices place small ≤ cost_from prices place large
cost_grows prices place [] [] below = omega arith
cost_grows prices place [] (b ∷ large) below = absurd below
cost_grows prices place (a ∷ small) [] below = absurd below
cost_grows prices place (a ∷ small) (b ∷ large) below =
    let rest = cost_grows prices (place + 1) small large below.1 in
    let first : a * price_at prices place ≤ b * price_at prices place = mul-le-mul_right (price_at prices place) below.0 in
    omega arith

pub larger_fleets_cost_no_less : LargerFleetsCostNoLess
larger_fleets_cost_no_less prices small large below = cost_grows prices 0 small large below

-- ---- one unit more

none_cost : (prices : List ℕ) (place places : ℕ) → cost_from prices place (replicate places 0) ≡ 0
none_cost prices place zero = refl
none_cost prices place (suc places) = let rest : cost_from prices (place + 1) (replicate places 0) ≡ 0 = none_cost prices (place + 1) places in omega (arith, rest)

more_from : (prices : List ℕ) (place k : ℕ) (fleet : List ℕ) → k < length fleet
    → cost_from prices place (set fleet k (slice_index fleet k + 1)) ≡ cost_from prices place fleet + price_at prices (place + k)
more_from prices place k [] within = absurd (omega (arith, within))
more_from prices place zero (x ∷ fleet) within =
    let here : price_at prices place ≡ price_at prices (place + zero) = ap (price_at prices) (let same : place ≡ place + zero = omega arith in same) in
    one (price_at prices place) (price_at prices (place + zero)) (cost_from prices (place + 1) fleet) here
  where
    one : (price other rest : ℕ) → price ≡ other → (x + 1) * price + rest ≡ x * price + rest + other
    one price other rest same = omega arith
more_from prices place (suc k) (x ∷ fleet) within =
    let rest : cost_from prices (place + 1) (set fleet k (slice_index fleet k + 1)) ≡ cost_from prices (place + 1) fleet + price_at prices (place + 1 + k) =
    more_from prices (place + 1) k fleet (omega (arith, within)) in
    let here : price_at prices (place + 1 + k) ≡ price_at prices (place + suc k) = ap (price_at prices) (let same : place + 1 + k ≡ place + suc k = omega arith in same) in
    one (x * price_at prices place) _ _ _ _ rest here
  where
    one : (first before after price other : ℕ) → after ≡ before + price → price ≡ other → first + after ≡ first + before + other
    one first before after price other rest same = omega arith

more_cost : (prices fleet : List ℕ) (s m : ℕ) → m < length prices → s * length prices + m < length fleet
    → fleet_cost prices (set fleet (s * length prices + m) (slice_index fleet (s * length prices + m) + 1)) ≡ fleet_cost prices fleet + slice_index prices m
more_cost prices fleet s m unit_type within =
    let place : ℕ = s * length prices + m in
    let first : 0 + place ≡ place = omega arith in
    let price : price_at prices (0 + place) ≡ slice_index prices m = ap (price_at prices) first ∙ ap (λ (k : ℕ). slice_index prices k) (mod-mul-add s (length prices) m unit_type) in
    more_from prices 0 place fleet within ∙ ap (λ (n : ℕ). fleet_cost prices fleet + n) price

pub fleets_cost_their_units : FleetsCostTheirUnits
fleets_cost_their_units prices = record { none = none_cost prices 0; one_more = more_cost prices }
