use Rattle.std.proofs.Common.{◌≡◌, ℕ, ◌+◌, List, Bool, [], ◌∷◌, ◌++◌, map, length, sym, ◌∙◌, ap, arith}
use Rattle.std.specs.List.{range_with_len}
use Rattle.std.proofs.lemmas.List.FromFn.{length-map-range_with_len, map-range_with_len_more}
use Rattle.timetable.specs.Admissible.{is_admissible}
use Rattle.timetable.specs.Compositions.{composition_at}
use Rattle.branch_tree.specs.Sets.{set_of}
use Rattle.branch_tree.specs.Regions.{root_of}
use Rattle.branch_tree.proofs.regions.Region.root.Goals as goal

-- the sets of so many trips, and of one more
pub one_more : (sets : ℕ → List Bool) (trips : ℕ) (old new : List (List Bool)) (set : List Bool) → old ≡ map sets (range_with_len 0 trips) → set ≡ sets trips → new ≡ old ++ set ∷ [] →
    new ≡ map sets (range_with_len 0 (trips + 1))
one_more sets trips old new set before one pushed =
    pushed ∙ ap (λ xs. xs ++ set ∷ []) before ∙ ap (λ s. map sets (range_with_len 0 trips) ++ s ∷ []) one ∙ sym (map-range_with_len_more sets 0 trips trips (omega arith))

pub loop-trip-preserved : goal.loop-trip-preserved
loop-trip-preserved c =
    one_more (λ trip. set_of (λ comp. is_admissible c.args.instance.now trip (composition_at c.args.instance.now comp))) c.loop-trip.trip
    c.loop-trip.sets.items c.push.new.self.items c.admissible_set.result c.loop-trip.invariant c.admissible_set.ensures c.in_ok-push.ensures.items

pub returns : goal.returns
unfolding root_of
returns c =
    let all : c.loop-trip.trip ≡ length c.args.instance.now.trips = omega (arith, c.trips-trip-end.ensures.value) in
    c.loop-trip.invariant ∙ ap (λ trips. map (λ trip. set_of (λ comp. is_admissible c.args.instance.now trip (composition_at c.args.instance.now comp))) (range_with_len 0 trips)) all

pub invariant_of-result : goal.invariant_of-result
invariant_of-result c = omega (
  arith,
  ap length c.loop-trip.invariant,
  length-map-range_with_len (λ trip. set_of (λ comp. is_admissible c.args.instance.now trip (composition_at c.args.instance.now comp))) 0 c.loop-trip.trip,
)
