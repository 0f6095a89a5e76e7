-- The types are those of the catalogue's composition.
use Rattle.std.proofs.Common.{◌≡◌, List, [], ℕ, Option, Some, ap, slice_get, sym, unwrap_or, ◌∙◌}
use Rattle.timetable.specs.Compositions.{compositions_of, greatest_platform}
use Rattle.timetable.proofs.Picking.{types_known}
use Rattle.price_bound.proofs.Summing.{types_below}
use Rattle.price_bound.proofs.priced_costs.types_of.Goals as goal

pub returns-clause-value : goal.returns-clause-value
returns-clause-value c =
    let is : slice_get (compositions_of c.args.instance.now) c.args.comp ≡ Some c.get.result.now = ap (λ (cs : List (List ℕ)). slice_get cs c.args.comp) (sym c.catalogue.ensures) ∙ c.get.ensures in
    c.units.ensures.value ∙ sym (ap (λ (o : Option (List ℕ)). unwrap_or o []) is)

pub returns-clause-known : goal.returns-clause-known
returns-clause-known c =
    let is : slice_get (compositions_of c.args.instance.now) c.args.comp ≡ Some c.get.result.now = ap (λ (cs : List (List ℕ)). slice_get cs c.args.comp) (sym c.catalogue.ensures) ∙ c.get.ensures in
    types_below c.args.instance.now.types c.units.result.now (types_known c.args.instance.now.types (greatest_platform c.args.instance.now) c.args.comp c.units.result.now
    (is ∙ ap (λ (ms : List ℕ). Some ms) (sym c.units.ensures.value)))

pub returns-clause-listed : goal.returns-clause-listed
returns-clause-listed c =
    let is : slice_get (compositions_of c.args.instance.now) c.args.comp ≡ Some c.get.result.now = ap (λ (cs : List (List ℕ)). slice_get cs c.args.comp) (sym c.catalogue.ensures) ∙ c.get.ensures in
    types_known c.args.instance.now.types (greatest_platform c.args.instance.now) c.args.comp c.units.result.now (is ∙ ap (λ (ms : List ℕ). Some ms) (sym c.units.ensures.value))
