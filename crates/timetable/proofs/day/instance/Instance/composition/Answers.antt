-- The composition is that of the catalogue.
use Rattle.std.proofs.Common.{◌≡◌, List, ℕ, Some, ap, sym, ◌∙◌, slice_get}
use Rattle.timetable.specs.Compositions.{compositions_of, greatest_platform}
use Rattle.timetable.proofs.Picking.{picked_on, types_known}
use Rattle.timetable.proofs.day.instance.Instance.composition.Goals as goal

pub returns-clause-value : goal.returns-clause-value
returns-clause-value c =
    let is : slice_get (compositions_of c.args.self.now) c.get.result ≡ Some c.get-2.result.now = ap (λ (cs : List (List ℕ)). slice_get cs c.get.result) (sym c.catalogue.ensures) ∙ c.get-2.ensures in
    picked_on c.args.self.now c.args.picks.now c.args.trip c.get.result c.get-2.result.now c.get.ensures is

pub returns-clause-known : goal.returns-clause-known
returns-clause-known c =
    let is : slice_get (compositions_of c.args.self.now) c.get.result ≡ Some c.get-2.result.now = ap (λ (cs : List (List ℕ)). slice_get cs c.get.result) (sym c.catalogue.ensures) ∙ c.get-2.ensures in
    types_known c.args.self.now.types (greatest_platform c.args.self.now) c.get.result c.get-2.result.now is
