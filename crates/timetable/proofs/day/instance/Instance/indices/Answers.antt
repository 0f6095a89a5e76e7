-- Those of departure minutes, those of stations and types, and those of hand-overs and compositions.
use Rattle.std.proofs.Common.{◌≡◌, ◌+◌, ◌*◌, ◌∙◌, ◌++◌, ℕ, List, length, ap, sym, arith, length-append}
use Rattle.std.proofs.lemmas.Nat.{mul-le}
use Rattle.timetable.specs.Compositions.{compositions_of}
use Rattle.timetable.specs.Day.{Day}
use Rattle.timetable.specs.Handovers.{handovers_of}
use Rattle.timetable.specs.Indices.{lambdas_of, mus_of, sigmas_of, places_of}
use Rattle.timetable.proofs.Indices.{length-sigmas}
use Rattle.timetable.proofs.day.instance.Instance.indices.Goals as goal

counts : (day : Day) (lambdas mus handovers comps : ℕ) → lambdas ≡ length (lambdas_of day) → mus ≡ length (mus_of day) → handovers ≡ length (handovers_of day)
    → comps ≡ length (compositions_of day) → lambdas + mus + handovers * comps ≡ length (places_of day)
counts day lambdas mus handovers comps l m h c =
    let sigmas : handovers * comps ≡ length (sigmas_of day) = ap (λ (n : ℕ). n * comps) h ∙ ap (λ (n : ℕ). length (handovers_of day) * n) c ∙ sym (length-sigmas day) in
    omega (arith, sigmas, length-append (lambdas_of day) (mus_of day ++ sigmas_of day), length-append (mus_of day) (sigmas_of day))

pub overflow_add-result : goal.overflow_add-result
overflow_add-result c = omega (arith, c.free_from.ensures.few, c.mus.ensures.few)

pub overflow_add-result-2 : goal.overflow_add-result-2
overflow_add-result-2 c =
    omega (arith, c.free_from.ensures.few, c.mus.ensures.few, mul-le c.handovers.result c.len.result 266 1000 c.handovers.ensures.few c.len.ensures.few)

pub returns-clause-value : goal.returns-clause-value
returns-clause-value c =
    counts c.args.self.now c.free_from.result c.mus.result c.handovers.result c.len.result c.free_from.ensures.value c.mus.ensures.value c.handovers.ensures.value
    (c.len.ensures.value ∙ ap (λ (lists : List (List ℕ)). length lists) c.catalogue.ensures)

pub returns-clause-few : goal.returns-clause-few
returns-clause-few c =
    omega (arith, c.free_from.ensures.few, c.mus.ensures.few, mul-le c.handovers.result c.len.result 266 1000 c.handovers.ensures.few c.len.ensures.few)
