use Rattle.std.proofs.Common.{◌≡◌, ◌∙◌, sym, ap, map, Some, option_map, slice_get}
use Rattle.std.proofs.lemmas.Option.{slice_get-map}
use Rattle.rules.specs.declared.records.Trip.{Trip}
use Rattle.worked_files.proofs.day_tests.number_by_name.Goals as goal

pub returns : goal.returns
returns c =
    let day = c.args.day.now in
    let name = c.as_str.result.now in
    let at : slice_get (map (λ (trip : Trip). trip.name) day.trips) c.args.trip ≡ Some name =
    slice_get-map (λ (trip : Trip). trip.name) day.trips c.args.trip
    ∙ ap (option_map (λ (trip : Trip). trip.name)) c.trip.ensures.value
    ∙ ap Some (sym c.as_str.ensures.value) in
    c.find_trip.ensures.value ∙ (c.names_are_found.ensures.law day c.is_sound.ensures.names).trip c.args.trip name at
