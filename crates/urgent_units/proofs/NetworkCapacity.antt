-- What may go out of a set of nodes is what the cut of their moments is worth.
use Rattle.std.proofs.Common.{◌≡◌, ℕ, zero, suc, ◌+◌, ◌-◌, ◌≤◌, ◌<◌, Bool, true, false, List, [], ◌∷◌, ◌++◌, length, map, refl, ap, ◌∙◌, arith}
use Rattle.std.specs.Prelude.{if◌then◌else◌, not, ◌&&◌}
use Rattle.std.specs.List.{All, flat_map, sum_by}
use Rattle.std.proofs.lemmas.Bool.{le-leb}
use Rattle.std.proofs.lemmas.List.Elements.{All-head, All-tail, All-append, All-nil}
use Rattle.std.proofs.lemmas.List.Sums.{sum_by-cons, sum_by-append}
use Rattle.flow_network.specs.declared.network.Arc.{Arc}
use Rattle.flow_network.specs.Flows.{empty}
use Rattle.flow_network.proofs.Largest.{crossing}
use Rattle.timetable.specs.Accepted.{IsDay}
use Rattle.timetable.specs.Day.{Day, home_of}
use Rattle.timetable.specs.Lists.{count_of, joined, listed, sum_below}
use Rattle.urgent_units.specs.declared.legs.Leg.{Leg}
use Rattle.urgent_units.specs.declared.legs.UnitLegs.{UnitLegs}
use Rattle.urgent_units.specs.declared.wish.Wish.{Wish}
use Rattle.urgent_units.specs.Cuts.{cut_value, goes_out, held_out_at, is_in, is_left}
use Rattle.urgent_units.specs.Held.{held}
use Rattle.urgent_units.specs.LegParts.{AreLegs, IsLegAt}
use Rattle.urgent_units.specs.Legs.{TypeLegs, all_legs}
use Rattle.urgent_units.specs.Moments.{minutes_at, moment_count, moment_of}
use Rattle.urgent_units.specs.Wishes.{IsWish}
use Rattle.urgent_units.specs.YardNetwork.{home_arc, leg_arc, node_of, source_of, wait_arc, wait_arcs, yard_arcs}
use Rattle.urgent_units.proofs.ListSums.{counted_over, over, tally}
use Rattle.urgent_units.proofs.Moments.{earlier_within}
use Rattle.urgent_units.proofs.WishedUnits.{there_is}

-- the same arcs without a flow let the same through
pub capacity_empty : (is_near : ℕ → Bool) (arcs : List Arc) → sum_by (crossing is_near) (map empty arcs) ≡ sum_by (crossing is_near) arcs
capacity_empty is_near [] = refl
capacity_empty is_near (arc ∷ arcs) =
    omega (arith, sum_by-cons (crossing is_near) (empty arc) (map empty arcs), sum_by-cons (crossing is_near) arc arcs, capacity_empty is_near arcs)

pub all_joined : {X Y : Type 0} (P : Y → Type 0) (f : X → List Y) (xs : List X) → All (λ x. All P (f x)) xs → All P (flat_map f xs)
all_joined P f [] each = All-nil P
all_joined {X} P f (x ∷ xs) each = All-append P (f x) (flat_map f xs) (All-head (λ (x : X). All P (f x)) x xs each) (all_joined P f xs (All-tail (λ (x : X). All P (f x)) x xs each))

module _ (day : Day) (legs : TypeLegs) (wish : Wish) (cut : List (List Bool)) (is_near : ℕ → Bool) (are : AreLegs legs) (is_day : IsDay day) (stations : length day.stations ≡ legs.stations) (is_wish : IsWish day wish)
    (source : is_near (source_of legs) ≡ true) (same : (s k : ℕ) → s < legs.stations → k < moment_count legs s → is_near (node_of legs s k) ≡ is_in cut s k) where
  abbrev out : Arc → ℕ
  out = crossing is_near

  by_ends : (b c d e : Bool) (n : ℕ) → b ≡ d → c ≡ e → (if b then (if c then 0 else n) else 0) ≡ (if d && not e then n else 0)
  by_ends b c d e n from to = ap (λ (x : Bool). if x then (if c then 0 else n) else 0) from ∙ ap (λ (x : Bool). if d then (if x then 0 else n) else 0) to ∙ on d e
    where
      on : (d e : Bool) → (if d then (if e then 0 else n) else 0) ≡ (if d && not e then n else 0)
      on true true = refl
      on true false = refl
      on false e = refl

  moment_within : (s m : ℕ) → moment_of legs s m < moment_count legs s
  moment_within s m = omega (arith, earlier_within m (minutes_at legs s))

  -- ---- legs

  one_leg : (leg : Leg) → IsLegAt legs leg → out (leg_arc legs leg) ≡ tally (goes_out legs cut leg)
  one_leg leg at =
      by_ends _ _ (is_in cut leg.from (moment_of legs leg.from leg.departs)) (is_in cut leg.to (moment_of legs leg.to leg.ready)) 1
      (same leg.from (moment_of legs leg.from leg.departs) at.from (moment_within leg.from leg.departs))
      (same leg.to (moment_of legs leg.to leg.ready) at.to (moment_within leg.to leg.ready))

  some_legs : (ls : List Leg) → All (IsLegAt legs) ls → sum_by out (map (leg_arc legs) ls) ≡ over (λ leg. tally (goes_out legs cut leg)) ls
  some_legs [] each = refl
  some_legs (leg ∷ ls) each =
      omega (arith, sum_by-cons out (leg_arc legs leg) (map (leg_arc legs) ls), one_leg leg (All-head (IsLegAt legs) leg ls each), some_legs ls (All-tail (IsLegAt legs) leg ls each))

  -- ---- homes

  one_home : (u : ℕ) → home_of day u < legs.stations → out (home_arc day legs u) ≡ tally (not (is_in cut (home_of day u) 0))
  one_home u at = by_ends _ _ true (is_in cut (home_of day u) 0) 1 source (same (home_of day u) 0 at (omega arith))

  some_homes : (us : List ℕ) → ((u : ℕ) → 1 ≤ count_of u us → home_of day u < legs.stations) → sum_by out (map (home_arc day legs) us) ≡ over (λ u. tally (not (is_in cut (home_of day u) 0))) us
  some_homes [] at = refl
  some_homes (u ∷ us) at =
      omega (arith, sum_by-cons out (home_arc day legs u) (map (home_arc day legs) us), one_home u (at u (there_is (u ∷ us) 0 u (omega arith))), some_homes us (λ v c. at v (omega (arith, c))))

  -- ---- waiting

  one_wait : (s k : ℕ) → s < legs.stations → k + 1 < moment_count legs s → out (wait_arc legs s k) ≡ (if is_left cut s k then held legs s k else 0)
  one_wait s k at within =
      by_ends _ _ (is_in cut s k) (is_in cut s (suc k)) (held legs s k) (same s k at (omega (arith, within))) (same s (suc k) at (omega (arith, within)))

  some_waits : (s n : ℕ) → s < legs.stations → n ≤ moment_count legs s - 1 → sum_by out (listed (wait_arc legs s) n) ≡ sum_below (λ k. if is_left cut s k then held legs s k else 0) n
  some_waits s zero at within = refl
  some_waits s (suc n) at within =
      omega (arith, sum_by-append out (listed (wait_arc legs s) n) (wait_arc legs s n ∷ []), sum_by-cons out (wait_arc legs s n) [], some_waits s n at (omega (arith, within)), one_wait s n at (omega (arith, within)))

  all_waits : (n : ℕ) → n ≤ legs.stations → sum_by out (joined (wait_arcs legs) n) ≡ sum_below (held_out_at legs cut) n
  all_waits zero within = refl
  all_waits (suc n) within =
      omega (arith, sum_by-append out (joined (wait_arcs legs) n) (wait_arcs legs n), all_waits n (omega (arith, within)), some_waits n (moment_count legs n - 1) (omega (arith, within)) (omega arith))

  -- ---- all

  pub capacity_is_value : sum_by (crossing is_near) (yard_arcs day legs wish) ≡ cut_value day legs wish cut
  unfolding cut_value
  capacity_is_value =
      let ls = map (leg_arc legs) (all_legs legs) in
      let hs = map (home_arc day legs) wish.units in
      let ws = joined (wait_arcs legs) legs.stations in
      let first = sum_by-append out (ls ++ hs) ws in
      let second = sum_by-append out ls hs in
      let by_legs = some_legs (all_legs legs) (all_joined (IsLegAt legs) (λ (unit : UnitLegs). unit.legs) legs.units are.each) in
      let by_homes = some_homes wish.units (λ u c. (let at = is_day.units.home u (is_wish.known u (le-leb 1 (count_of u wish.units) c)) in omega (arith, at, stations))) in
      let by_waits = all_waits legs.stations (omega arith) in
      omega (arith, first, second, by_legs, by_homes, by_waits, counted_over (goes_out legs cut) (all_legs legs), counted_over (λ u. not (is_in cut (home_of day u) 0)) wish.units)
