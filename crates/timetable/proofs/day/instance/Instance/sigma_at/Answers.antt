-- Of a row for each hand-over, the place in it.
use Rattle.std.proofs.Common.{◌≡◌, ◌+◌, ◌/◌, ◌%◌, ◌∙◌, ℕ, List, length, Some, slice_get, ap, sym, subst, arith}
use Rattle.timetable.specs.Indices.{lambdas_of, mus_of, places_of}
use Rattle.timetable.specs.declared.day.indices.Place.TheVariants.{Sigma}
use Rattle.timetable.proofs.Indices.{some_compositions, sigma_of}
use Rattle.timetable.proofs.day.instance.Instance.sigma_at.Goals as goal

pub nonzero_div-result : goal.nonzero_div-result
nonzero_div-result c = omega (arith, some_compositions c.args.self.now c.args.left c.requires, c.len-comps.ensures.value, ap (λ (lists : List (List ℕ)). length lists) c.catalogue.ensures)

pub nonzero_rem-result : goal.nonzero_rem-result
nonzero_rem-result c = omega (arith, some_compositions c.args.self.now c.args.left c.requires, c.len-comps.ensures.value, ap (λ (lists : List (List ℕ)). length lists) c.catalogue.ensures)

pub returns : goal.returns
returns c =
    subst (λ (width : ℕ). slice_get (places_of c.args.self.now) (length (lambdas_of c.args.self.now) + (length (mus_of c.args.self.now) + c.args.left)) ≡ Some (Sigma (c.args.left / width) (c.args.left % width)))
    (sym (c.len-comps.ensures.value ∙ ap (λ (lists : List (List ℕ)). length lists) c.catalogue.ensures)) (sigma_of c.args.self.now c.args.left c.requires)
