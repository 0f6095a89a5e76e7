-- The compositions of picks.
use Rattle.std.proofs.Common.{◌≡◌, ℕ, ◌<◌, List, [], length, Option, Some, true, sym, ap, ◌∙◌, subst, unwrap_or}
use Rattle.std.proofs.Common.{slice_get}
use Rattle.std.specs.Prelude.{option_map}
use Rattle.std.proofs.lemmas.Option.{slice_get-map, slice_get_within, get_or_from_slice_get}
use Rattle.compositions.specs.Catalogue.{catalogue_of}
use Rattle.compositions.specs.Composition.{are_types, fits_in}
use Rattle.rules.specs.declared.records.UnitType.{UnitType}
use Rattle.compositions.proofs.Fitting.{Fits-from_test}
use Rattle.compositions.proofs.Listing.{catalogue_listed}
use Rattle.timetable.specs.Compositions.{compositions_of, composition_at}
use Rattle.timetable.specs.Day.{Day}
use Rattle.timetable.specs.Links.{list_of}
use Rattle.timetable.specs.Picks.{ArePicks, picked}

-- the list of a trip is that of the composition that is picked for it
pub picked_on : (day : Day) (picks : List ℕ) (t comp : ℕ) (types : List ℕ) → slice_get picks t ≡ Some comp → slice_get (compositions_of day) comp ≡ Some types
    → types ≡ list_of (picked day picks) t
unfolding list_of
picked_on day picks t comp types at is =
    sym (ap (λ (o : Option (List ℕ)). unwrap_or o []) (slice_get-map (composition_at day) picks t ∙ ap (option_map (composition_at day)) at)
    ∙ ap (λ (o : Option (List ℕ)). unwrap_or o []) is)

-- the composition that is picked for a trip is there
pub pick_within : (day : Day) (picks : List ℕ) (t comp : ℕ) → ArePicks day picks → slice_get picks t ≡ Some comp → comp < length (compositions_of day)
pick_within day picks t comp are at =
    subst (λ (k : ℕ). k < length (compositions_of day)) (get_or_from_slice_get picks t comp comp at) (are.known t comp (slice_get_within picks t comp at))

-- the types of a composition of the catalogue are there
pub types_known : (types : List UnitType) (longest comp : ℕ) (ms : List ℕ) → slice_get (catalogue_of types longest) comp ≡ Some ms → are_types types ms ≡ true
types_known types longest comp ms at =
    let catalogue = catalogue_of types longest in
    let same = get_or_from_slice_get catalogue comp ms ms at in
    let fits : fits_in types longest ms ≡ true = subst (λ (ns : List ℕ). fits_in types longest ns ≡ true) same ((catalogue_listed types longest).listed.fit comp ms (slice_get_within catalogue comp ms at)) in
    (Fits-from_test types longest ms fits).known
