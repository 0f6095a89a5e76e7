-- Of a row for each station, the place in it.
use Rattle.std.proofs.Common.{◌≡◌, ◌+◌, ◌/◌, ◌%◌, ◌∙◌, ℕ, List, length, Some, slice_get, ap, sym, subst, arith}
use Rattle.rules.specs.declared.records.UnitType.{UnitType}
use Rattle.timetable.specs.Indices.{lambdas_of, places_of}
use Rattle.timetable.specs.declared.day.indices.Place.TheVariants.{Mu}
use Rattle.timetable.proofs.Indices.{some_types, mu_of}
use Rattle.timetable.proofs.day.instance.Instance.mu_at.Goals as goal

pub nonzero_div-result : goal.nonzero_div-result
nonzero_div-result c = omega (arith, some_types c.args.self.now c.args.left c.requires, c.len-types.ensures.value, ap (λ (types : List UnitType). length types) c.types.ensures.value)

pub nonzero_rem-result : goal.nonzero_rem-result
nonzero_rem-result c = omega (arith, some_types c.args.self.now c.args.left c.requires, c.len-types.ensures.value, ap (λ (types : List UnitType). length types) c.types.ensures.value)

pub returns : goal.returns
returns c =
    subst (λ (width : ℕ). slice_get (places_of c.args.self.now) (length (lambdas_of c.args.self.now) + c.args.left) ≡ Some (Mu (c.args.left / width) (c.args.left % width)))
    (sym (c.len-types.ensures.value ∙ ap (λ (types : List UnitType). length types) c.types.ensures.value)) (mu_of c.args.self.now c.args.left c.requires)
