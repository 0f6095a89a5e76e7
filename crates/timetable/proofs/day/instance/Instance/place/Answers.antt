-- The place is that of the index, so it is there.
use Rattle.std.proofs.Common.{◌≡◌, ◌≤◌, ◌+◌, ◌-◌, ◌∙◌, ℕ, length, Some, slice_get, ap, arith}
use Rattle.timetable.specs.Day.{Day}
use Rattle.timetable.specs.Indices.{lambdas_of, mus_of, places_of}
use Rattle.timetable.specs.declared.day.indices.Place.{Place}
use Rattle.timetable.proofs.Indices.{is_index_of, known_place, lambdas_first}
use Rattle.timetable.proofs.day.instance.Instance.place.Goals as goal

-- a number after the lambdas, and one after the mus
after_lambdas : (day : Day) (index first : ℕ) (place : Place) → first ≡ length (lambdas_of day) → first ≤ index
    → slice_get (places_of day) (length (lambdas_of day) + (index - first)) ≡ Some place → slice_get (places_of day) index ≡ Some place
after_lambdas day index first place is least at =
    let same : index ≡ length (lambdas_of day) + (index - first) = omega arith in
    ap (λ (n : ℕ). slice_get (places_of day) n) same ∙ at

after_mus : (day : Day) (index first mus : ℕ) (place : Place) → first ≡ length (lambdas_of day) → mus ≡ length (mus_of day) → first ≤ index → mus ≤ index - first
    → slice_get (places_of day) (length (lambdas_of day) + (length (mus_of day) + (index - first - mus))) ≡ Some place → slice_get (places_of day) index ≡ Some place
after_mus day index first mus place is is' least least' at =
    let same : index ≡ length (lambdas_of day) + (length (mus_of day) + (index - first - mus)) = omega arith in
    ap (λ (n : ℕ). slice_get (places_of day) n) same ∙ at

pub returns-then-index-free_from-clause-index : goal.returns-then-index-free_from-clause-index
returns-then-index-free_from-clause-index c = is_index_of c.args.self.now c.lambda_at.result c.args.index c.lambda_at.ensures

pub returns-then-index-free_from-clause-known : goal.returns-then-index-free_from-clause-known
returns-then-index-free_from-clause-known c = known_place c.args.self.now c.args.index c.lambda_at.result c.lambda_at.ensures

pub returns-then-index-free_from-clause-lambda : goal.returns-then-index-free_from-clause-lambda
returns-then-index-free_from-clause-lambda c = lambdas_first c.args.self.now c.args.index c.lambda_at.result c.lambda_at.ensures

pub returns-then-left-mus-clause-index : goal.returns-then-left-mus-clause-index
returns-then-left-mus-clause-index c = is_index_of c.args.self.now c.mu_at.result c.args.index
    (after_lambdas c.args.self.now c.args.index c.free_from-free_from.result c.mu_at.result c.free_from-free_from.ensures.value c.if-index-free_from.false c.mu_at.ensures)

pub returns-then-left-mus-clause-known : goal.returns-then-left-mus-clause-known
returns-then-left-mus-clause-known c = known_place c.args.self.now c.args.index c.mu_at.result
    (after_lambdas c.args.self.now c.args.index c.free_from-free_from.result c.mu_at.result c.free_from-free_from.ensures.value c.if-index-free_from.false c.mu_at.ensures)

pub returns-then-left-mus-clause-lambda : goal.returns-then-left-mus-clause-lambda
returns-then-left-mus-clause-lambda c = lambdas_first c.args.self.now c.args.index c.mu_at.result
    (after_lambdas c.args.self.now c.args.index c.free_from-free_from.result c.mu_at.result c.free_from-free_from.ensures.value c.if-index-free_from.false c.mu_at.ensures)

pub returns-else-left-mus-clause-index : goal.returns-else-left-mus-clause-index
returns-else-left-mus-clause-index c = is_index_of c.args.self.now c.sigma_at.result c.args.index
    (after_mus c.args.self.now c.args.index c.free_from-free_from.result c.mus-mus.result c.sigma_at.result c.free_from-free_from.ensures.value c.mus-mus.ensures.value c.if-index-free_from.false c.if-left-mus.false c.sigma_at.ensures)

pub returns-else-left-mus-clause-known : goal.returns-else-left-mus-clause-known
returns-else-left-mus-clause-known c = known_place c.args.self.now c.args.index c.sigma_at.result
    (after_mus c.args.self.now c.args.index c.free_from-free_from.result c.mus-mus.result c.sigma_at.result c.free_from-free_from.ensures.value c.mus-mus.ensures.value c.if-index-free_from.false c.if-left-mus.false c.sigma_at.ensures)

pub returns-else-left-mus-clause-lambda : goal.returns-else-left-mus-clause-lambda
returns-else-left-mus-clause-lambda c = lambdas_first c.args.self.now c.args.index c.sigma_at.result
    (after_mus c.args.self.now c.args.index c.free_from-free_from.result c.mus-mus.result c.sigma_at.result c.free_from-free_from.ensures.value c.mus-mus.ensures.value c.if-index-free_from.false c.if-left-mus.false c.sigma_at.ensures)
