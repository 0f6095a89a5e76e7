-- The composition in the other direction is in the catalogue.
use Rattle.std.proofs.Common.{◌≡◌, ℕ, List, Bool, true, reverse, ap, sym, subst, ◌∙◌, slice_get, Contains}
use Rattle.timetable.specs.Compositions.{compositions_of, composition_at}
use Rattle.timetable.specs.Day.{Day}
use Rattle.price_bound.specs.CompositionTrees.{IsTurnedPlace}
use Rattle.price_bound.proofs.CompositionTrees.{turned_there}
use Rattle.price_bound.proofs.Resting.{number_is, place_there}
use Rattle.price_bound.proofs.trains.turned_place.Goals as goal

pub place_of-requires : goal.place_of-requires
place_of-requires c =
    let day : Day = c.args.instance.now in
    let is : composition_at day c.args.comp ≡ c.get-composition.result.now =
    number_is day c.args.comp c.get-composition.result.now
    (ap (λ (cs : List (List ℕ)). slice_get cs c.args.comp) (sym c.catalogue.ensures) ∙ c.get-composition.ensures) in
    subst (λ (cs : List (List ℕ)). Contains cs c.reversed.result) (sym c.catalogue-2.ensures)
    (subst (Contains (compositions_of day)) (ap reverse is ∙ sym c.reversed.ensures) (turned_there day true c.args.comp c.requires))

pub returns : goal.returns
returns c =
    let day : Day = c.args.instance.now in
    let is : composition_at day c.args.comp ≡ c.get-composition.result.now =
    number_is day c.args.comp c.get-composition.result.now
    (ap (λ (cs : List (List ℕ)). slice_get cs c.args.comp) (sym c.catalogue.ensures) ∙ c.get-composition.ensures) in
    let reverses : c.args.reversed ≡ true = cc in
    subst (λ (r : Bool). IsTurnedPlace day r c.args.comp c.place_of.result) (sym reverses)
    (place_there day true c.args.comp c.place_of.result c.reversed.result (ap reverse is ∙ sym c.reversed.ensures)
    (ap (λ (cs : List (List ℕ)). slice_get cs c.place_of.result) (sym c.catalogue-2.ensures) ∙ c.place_of.ensures))
