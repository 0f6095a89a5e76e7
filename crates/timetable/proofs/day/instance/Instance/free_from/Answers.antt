-- For each type the departure minutes of all stations.
use Rattle.std.proofs.Common.{◌*◌, ◌∙◌, ℕ, List, length, ap, sym}
use Rattle.std.proofs.lemmas.Nat.{mul-le}
use Rattle.timetable.specs.Lists.{sum_below}
use Rattle.rules.specs.declared.records.UnitType.{UnitType}
use Rattle.timetable.specs.Minutes.{minutes_of}
use Rattle.timetable.proofs.Indices.{length-lambdas}
use Rattle.timetable.proofs.day.instance.Instance.free_from.Goals as goal

pub returns-clause-value : goal.returns-clause-value
returns-clause-value c =
    let total : ℕ → ℕ = sum_below (λ s. length (minutes_of c.args.self.now s)) in
    ap (λ (n : ℕ). n * c.minutes_before.result) (c.len.ensures.value ∙ ap (λ (types : List UnitType). length types) c.types.ensures.value)
    ∙ ap (λ (n : ℕ). length c.args.self.now.types * n) (c.minutes_before.ensures.value ∙ ap total c.stations.ensures.value)
    ∙ sym (length-lambdas c.args.self.now)

pub returns-clause-few : goal.returns-clause-few
returns-clause-few c = mul-le c.len.result c.minutes_before.result 6 400 c.len.ensures.few c.minutes_before.ensures.few
