-- The region of a day: it has a composition for each trip, and every solution lies in it.
use Rattle.std.proofs.Common.{◌≡◌, ℕ, ◌<◌, List, [], length, get_or, Option, unwrap_or, Bool, sym, ◌∙◌, ap, arith}
use Rattle.std.specs.Prelude.{option_map}
use Rattle.std.proofs.lemmas.List.FromFn.{length-map-range_with_len, get_or-map-range_with_len}
use Rattle.std.proofs.lemmas.Option.{slice_get-get_or, slice_get-map}
use Rattle.rail_base.specs.declared.limits.TheConstants.{MAX_COMPOSITIONS}
use Rattle.timetable.specs.Admissible.{is_admissible}
use Rattle.timetable.specs.Compositions.{compositions_of, composition_at}
use Rattle.timetable.specs.Day.{Day}
use Rattle.timetable.specs.Links.{list_of}
use Rattle.timetable.specs.Picks.{picked}
use Rattle.timetable.proofs.AdmittedTypes.{CompositionOf, composition_of}
use Rattle.timetable.proofs.ListedUnits.{list_of-types}
use Rattle.branch_tree.specs.Laws.{RootsAreFilled, SolutionsLieInRoots}
use Rattle.branch_tree.specs.Regions.{root_of}
use Rattle.branch_tree.specs.Sets.{is_member, set_of}
use Rattle.branch_tree.proofs.Lying.{each_in}
use Rattle.branch_tree.proofs.Members.{is_member-tested}

-- the set of a trip, whatever stands for a trip that is not there
root_member : (day : Day) (trip comp : ℕ) (d : List Bool) → trip < length day.trips → comp < MAX_COMPOSITIONS
    → is_member (get_or (root_of day) trip d) comp ≡ is_admissible day trip (composition_at day comp)
unfolding root_of
root_member day trip comp d below few =
    ap (λ members. is_member members comp)
    (get_or-map-range_with_len (λ t. set_of (λ c. is_admissible day t (composition_at day c))) 0 (length day.trips) trip trip d below (omega arith))
    ∙ is_member-tested (λ c. is_admissible day trip (composition_at day c)) MAX_COMPOSITIONS comp few

root_length : (day : Day) → length (root_of day) ≡ length day.trips
unfolding root_of
root_length day = length-map-range_with_len (λ trip. set_of (λ comp. is_admissible day trip (composition_at day comp))) 0 (length day.trips)

pub roots_are_filled : RootsAreFilled
roots_are_filled day sound trip d below =
    let at : trip < length day.trips = omega (arith, below, root_length day) in
    let (types, admitted) = sound.served trip at in
    let as_listed : CompositionOf day types = composition_of day trip types admitted in (
      as_listed.comp,
      root_member day trip as_listed.comp d at (omega (arith, sound.compositions, as_listed.listed))
          ∙ ap (is_admissible day trip) as_listed.is ∙ admitted,
    )

-- the types of a trip's pick
picked_there : (day : Day) (picks : List ℕ) (trip : ℕ) → trip < length picks
    → list_of (picked day picks) trip ≡ composition_at day (get_or picks trip 0)
unfolding list_of
picked_there day picks trip below =
    ap (λ (o : Option (List ℕ)). unwrap_or o [])
    (slice_get-map (composition_at day) picks trip ∙ ap (option_map (composition_at day)) (slice_get-get_or picks trip 0 below))

pub solutions_lie_in_roots : SolutionsLieInRoots
solutions_lie_in_roots day picks sound solves =
    each_in picks (root_of day) (solves.are_picks.trips ∙ sym (root_length day)) (λ trip below.
    let at : trip < length day.trips = omega (arith, below, root_length day) in
    let there : trip < length picks = omega (arith, at, solves.are_picks.trips) in
    let known : get_or picks trip 0 < length (compositions_of day) = solves.are_picks.known trip 0 there in
    root_member day trip (get_or picks trip 0) [] at (omega (arith, sound.compositions, known))
    ∙ ap (is_admissible day trip)
    (sym (picked_there day picks trip there) ∙ sym (ap (λ lists. list_of lists trip) solves.types) ∙ list_of-types day solves.plan trip)
    ∙ (solves.runs.lists trip at).admissible)
