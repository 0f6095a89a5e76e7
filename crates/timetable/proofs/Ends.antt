-- How many hand-overs there are: each is of a join or a split, which name three of the two ends that each trip has.
use Rattle.std.proofs.Common.{◌≡◌, ℕ, zero, suc, ◌+◌, ◌*◌, ◌<◌, ◌≤◌, true, List, [], ◌∷◌, ◌++◌, length, inl, inr, Some}
use Rattle.std.proofs.Common.{refl, arith, slice_get}
use Rattle.std.proofs.lemmas.Bool.{cases_lt, le-leb}
use Rattle.rules.specs.declared.records.Link.{Link}
use Rattle.rules.specs.declared.records.LinkKind.{LinkKind}
use Rattle.rules.specs.declared.records.LinkKind.TheVariants.{Turn, Join, Split}
use Rattle.timetable.specs.Accepted.{AreLinks, times_named}
use Rattle.timetable.specs.Day.{Day}
use Rattle.timetable.specs.Handovers.{second_of, handover_at, handovers_from, handovers_of}
use Rattle.timetable.specs.Links.{arriving_in, departing_in}
use Rattle.timetable.specs.Lists.{count_of, has, sum_below}
use Rattle.timetable.proofs.Ones.{one, one_same}
use Rattle.timetable.proofs.Sums.{sum_add, sum_le, sum_ones}

-- numbers below a bound are as many as they are counted below it
counted : (xs : List ℕ) (n : ℕ) → ((t : ℕ) → 1 ≤ count_of t xs → t < n) → length xs ≤ sum_below (λ t. count_of t xs) n
counted [] n known = omega arith
counted (x ∷ xs) n known =
    let here = one_same x x refl in
    let rest = counted xs n (λ t c. known t (omega arith)) in
    let more = sum_add (one x) (λ t. count_of t xs) n in
    let one_more = adds_one x n (known x (omega arith)) in
    omega arith
  where
    adds_one : (x n : ℕ) → x < n → 1 ≤ sum_below (one x) n
    adds_one x zero below = absurd (omega arith)
    adds_one x (suc n) below = elim (cases_lt x n) [
      | inl before ↦ omega (arith, adds_one x n before)
      | inr last ↦ omega (arith, one_same x n (omega arith))
    ]

-- how many names of trips stand on one side of links
abbrev names_on : (LinkKind → List ℕ) → List Link → ℕ
names_on side [] = 0
names_on side (link ∷ links) = length (side link.kind) + names_on side links

names_counted : (side : LinkKind → List ℕ) (links : List Link) (n : ℕ)
    → ((l t : ℕ) (link : Link) → slice_get links l ≡ Some link → has t (side link.kind) ≡ true → t < n)
    → names_on side links ≤ sum_below (times_named side links) n
names_counted side [] n known = omega arith
names_counted side (link ∷ links) n known =
    omega (
      arith,
      counted (side link.kind) n (λ t c. known 0 t link refl (le-leb 1 (count_of t (side link.kind)) c)),
      names_counted side links n (λ l t link' at names. known (suc l) t link' at names),
      sum_add (λ t. count_of t (side link.kind)) (times_named side links) n,
    )

-- a join and a split name three trips
named_ends : (number : ℕ) (links : List Link) → 3 * length (handovers_from number links) ≤ names_on arriving_in links + names_on departing_in links
named_ends number [] = omega arith
named_ends number (link ∷ links) = on link.kind (named_ends (number + 1) links)
  where
    on : (kind : LinkKind) → 3 * length (handovers_from (number + 1) links) ≤ names_on arriving_in links + names_on departing_in links
        → 3 * length (handover_at number (second_of kind) ++ handovers_from (number + 1) links) ≤ (length (arriving_in kind) + names_on arriving_in links) + (length (departing_in kind) + names_on departing_in links)
    on (Turn a b uncouple couple exchange) rest = omega arith
    on (Join a1 a2 b) rest = omega arith
    on (Split a b1 b2) rest = omega arith

-- each trip is named at each of its ends once at most
pub few_ends : (day : Day) → AreLinks day → 3 * length (handovers_of day) ≤ 2 * length day.trips
unfolding handovers_of
few_ends day links =
    omega (
      arith,
      named_ends 0 day.links,
      names_counted arriving_in day.links (length day.trips) links.arriving,
      names_counted departing_in day.links (length day.trips) links.departing,
      sum_le (times_named arriving_in day.links) (λ _. 1) (length day.trips) (λ t below. links.arriving_once t),
      sum_le (times_named departing_in day.links) (λ _. 1) (length day.trips) (λ t below. links.departing_once t),
      sum_ones (length day.trips),
    )
