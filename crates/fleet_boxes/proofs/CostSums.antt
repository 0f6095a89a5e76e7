-- The cost of a fleet, place by place.
use Rattle.std.proofs.Common.{◌≡◌, ◌∙◌, ℕ, zero, suc, ◌+◌, ◌*◌, ◌≤◌, List, [], ◌∷◌, take, Some, slice_get, sym, ap, arith}
use Rattle.std.proofs.Math.Nat.{mul-le-mul_left}
use Rattle.std.proofs.lemmas.Option.{get_or_from_slice_get, slice_get_within}
use Rattle.rail_base.specs.declared.limits.TheConstants.{MAX_UNITS}
use Rattle.fleets.specs.Fleets.{fleet_size}
use Rattle.fleet_boxes.specs.declared.prices.TheConstants.{MAX_PRICE}
use Rattle.fleet_boxes.specs.Prices.{cost_from, fleet_cost, price_at}

-- one place more
next_from : (prices : List ℕ) (place k n : ℕ) (fleet : List ℕ) → slice_get fleet k ≡ Some n
    → cost_from prices place (take (suc k) fleet) ≡ cost_from prices place (take k fleet) + n * price_at prices (place + k)
next_from prices place k n [] at = let inside = slice_get_within {A = ℕ} [] k n at in absurd (omega arith)
next_from prices place zero n (x ∷ fleet) at =
    let same : x ≡ n = get_or_from_slice_get (x ∷ fleet) zero n n at in
    let here : place ≡ place + zero = omega arith in
    let cost : x * price_at prices place ≡ n * price_at prices (place + zero) = λ i. same i * price_at prices (here i) in
    omega arith
next_from prices place (suc k) n (x ∷ fleet) at =
    let here : place + 1 + k ≡ place + suc k = omega arith in
    let rest = next_from prices (place + 1) k n fleet at in
    let cost : n * price_at prices (place + 1 + k) ≡ n * price_at prices (place + suc k) = ap (λ (p : ℕ). n * price_at prices p) here in
    omega arith

pub next_cost : (prices : List ℕ) (k n price : ℕ) (fleet : List ℕ) → slice_get fleet k ≡ Some n → price ≡ price_at prices k
    → fleet_cost prices (take (k + 1) fleet) ≡ fleet_cost prices (take k fleet) + n * price
next_cost prices k n price fleet at is =
    let more : k + 1 ≡ suc k = omega arith in
    let here : 0 + k ≡ k = omega arith in
    ap (λ (j : ℕ). fleet_cost prices (take j fleet)) more ∙ next_from prices 0 k n fleet at
    ∙ ap (λ (p : ℕ). fleet_cost prices (take k fleet) + n * p) (ap (price_at prices) here ∙ sym is)

pub next_size : (k n : ℕ) (fleet : List ℕ) → slice_get fleet k ≡ Some n → fleet_size (take (k + 1) fleet) ≡ fleet_size (take k fleet) + n
next_size k n fleet at = let more : k + 1 ≡ suc k = omega arith in ap (λ (j : ℕ). fleet_size (take j fleet)) more ∙ next k fleet at
  where
    next : (k : ℕ) (fleet : List ℕ) → slice_get fleet k ≡ Some n → fleet_size (take (suc k) fleet) ≡ fleet_size (take k fleet) + n
    next k [] at = let inside = slice_get_within {A = ℕ} [] k n at in absurd (omega arith)
    next zero (x ∷ fleet) at = let same : x ≡ n = get_or_from_slice_get (x ∷ fleet) zero n n at in omega arith
    next (suc k) (x ∷ fleet) at = let rest = next k fleet at in omega arith

pub part_size : (k : ℕ) (fleet : List ℕ) → fleet_size (take k fleet) ≤ fleet_size fleet
part_size zero fleet = omega arith
part_size (suc k) [] = omega arith
part_size (suc k) (x ∷ fleet) = let rest = part_size k fleet in omega arith

-- a step of the sum keeps within what so many units can cost
pub still_few : (cost size n price : ℕ) → cost ≤ MAX_PRICE * size → price ≤ MAX_PRICE → cost + n * price ≤ MAX_PRICE * (size + n)
still_few cost size n price few low =
    let one : n * price ≤ n * MAX_PRICE = mul-le-mul_left n low in
    omega arith

-- so it keeps within what all units that a day may have can cost
pub few_costs : (cost size n price most : ℕ) → cost ≤ MAX_PRICE * size → price ≤ MAX_PRICE → size + n ≤ most → most ≤ MAX_UNITS → cost + n * price ≤ 1999999998000
few_costs cost size n price most few low units all = let step = still_few cost size n price few low in omega arith
