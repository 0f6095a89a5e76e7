use Rattle.std.proofs.Common.{◌≡◌, ℕ, List, Some, None, sym, ap, ◌∙◌}
use Rattle.csv.specs.Records.{fields_of}
use Rattle.rail_csv.specs.Columns.{field}
use Rattle.timetable.specs.NamedEntries.{find_name}
use Rattle.timetable.proofs.ListedUnits.{list_any-has}
use Rattle.cancellations.proofs.RowTrips.{does_cancel, not_may, not_named, not_other}
use Rattle.cancellations.proofs.cancelling.cancelled_by.Goals as goal

pub returns-in_err-trip-clause-none : goal.returns-in_err-trip-clause-none
returns-in_err-trip-clause-none c =
    let fields = fields_of c.args.row.now in
    let at : find_name (λ trip. trip.name) c.args.instance.now.trips (field fields 0) ≡ None =
    ap (λ (text : List ℕ). find_name (λ trip. trip.name) c.args.instance.now.trips text) (sym c.in_ok-name.ensures.text) ∙ sym c.find_trip.ensures.value ∙ c.in_err-trip.was in
    rw c.from_residual-in_err-trip.ensures
    (not_named c.args.instance.now c.args.now c.args.others.now fields c.is_sound.ensures.names at)

pub returns-then-contains-clause-none : goal.returns-then-contains-clause-none
returns-then-contains-clause-none c =
    let fields = fields_of c.args.row.now in
    let at : find_name (λ trip. trip.name) c.args.instance.now.trips (field fields 0) ≡ Some c.in_ok-trip.trip =
    ap (λ (text : List ℕ). find_name (λ trip. trip.name) c.args.instance.now.trips text) (sym c.in_ok-name.ensures.text) ∙ sym c.find_trip.ensures.value ∙ c.in_ok-trip.was in
    not_other c.args.instance.now c.args.now c.args.others.now fields c.is_sound.ensures.names c.in_ok-trip.trip at
    (sym (list_any-has c.args.others.now c.in_ok-trip.trip) ∙ sym c.contains.ensures.value ∙ c.if-contains.true)

pub returns-then-not-may_be_cancelled-clause-none : goal.returns-then-not-may_be_cancelled-clause-none
returns-then-not-may_be_cancelled-clause-none c =
    let fields = fields_of c.args.row.now in
    let at : find_name (λ trip. trip.name) c.args.instance.now.trips (field fields 0) ≡ Some c.in_ok-trip.trip =
    ap (λ (text : List ℕ). find_name (λ trip. trip.name) c.args.instance.now.trips text) (sym c.in_ok-name.ensures.text) ∙ sym c.find_trip.ensures.value ∙ c.in_ok-trip.was in
    not_may c.args.instance.now c.args.now c.args.others.now fields c.is_sound.ensures.names c.in_ok-trip.trip at
    (λ may. let passes = c.may_be_cancelled.ensures.1 may in absurd cc)

pub returns-clause-some : goal.returns-clause-some
returns-clause-some c =
    let fields = fields_of c.args.row.now in
    let at : find_name (λ trip. trip.name) c.args.instance.now.trips (field fields 0) ≡ Some c.in_ok-trip.trip =
    ap (λ (text : List ℕ). find_name (λ trip. trip.name) c.args.instance.now.trips text) (sym c.in_ok-name.ensures.text) ∙ sym c.find_trip.ensures.value ∙ c.in_ok-trip.was in
    does_cancel c.args.instance.now c.args.now c.args.others.now fields c.in_ok-trip.trip
    (sym c.len.ensures ∙ c.if-len-ne1.false) (sym c.in_ok-name.ensures.utf8) at (sym (list_any-has c.args.others.now c.in_ok-trip.trip) ∙ sym c.contains.ensures.value ∙ c.if-contains.false)
    (c.may_be_cancelled.ensures.0 c.if-not-may_be_cancelled.false)
