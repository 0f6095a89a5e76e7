-- The composition that is left is in the catalogue.
use Rattle.std.proofs.Common.{refl, ◌≡◌, ℕ, List, length, ap, sym, subst, ◌∙◌, slice_get, Contains}
use Rattle.timetable.specs.Compositions.{composition_at}
use Rattle.timetable.specs.Day.{Day}
use Rattle.price_bound.proofs.Resting.{less_there, number_is, rest_at, rest_root}
use Rattle.price_bound.proofs.trains.rest.Goals as goal

pub place_of-requires : goal.place_of-requires
place_of-requires c =
    let day : Day = c.args.instance.now in
    let is : composition_at day c.args.comp ≡ c.get-composition.result.now =
    number_is day c.args.comp c.get-composition.result.now
    (ap (λ (cs : List (List ℕ)). slice_get cs c.args.comp) (sym c.catalogue.ensures) ∙ c.get-composition.ensures) in
    subst (λ (cs : List (List ℕ)). Contains cs c.in-Some.less) (sym c.catalogue-in-Some.ensures)
    (less_there day c.args.end c.args.comp c.get-composition.result.now c.in-Some.less c.requires is c.in-Some.ensures.some c.in-Some.ensures.units)

pub returns-in-Some : goal.returns-in-Some
returns-in-Some c =
    let day : Day = c.args.instance.now in
    let is : composition_at day c.args.comp ≡ c.get-composition.result.now =
    number_is day c.args.comp c.get-composition.result.now
    (ap (λ (cs : List (List ℕ)). slice_get cs c.args.comp) (sym c.catalogue.ensures) ∙ c.get-composition.ensures) in
    rest_at day c.args.end c.args.comp c.place_of.result c.get-composition.result.now c.in-Some.less is c.in-Some.ensures.some
    (ap (λ (cs : List (List ℕ)). slice_get cs c.place_of.result) (sym c.catalogue-in-Some.ensures) ∙ c.place_of.ensures)

pub returns-in-None : goal.returns-in-None
returns-in-None c =
    let day : Day = c.args.instance.now in
    let is : composition_at day c.args.comp ≡ c.get-composition.result.now =
    number_is day c.args.comp c.get-composition.result.now
    (ap (λ (cs : List (List ℕ)). slice_get cs c.args.comp) (sym c.catalogue.ensures) ∙ c.get-composition.ensures) in
    rest_root day c.args.end c.args.comp c.len.result c.get-composition.result.now is (c.in-None.ensures.none refl)
    (c.len.ensures.value ∙ ap length c.catalogue-in-None.ensures)
