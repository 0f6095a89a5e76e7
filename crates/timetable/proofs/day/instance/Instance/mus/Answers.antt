-- For each station one for each type.
use Rattle.std.proofs.Common.{◌*◌, ◌∙◌, ℕ, List, length, ap, sym}
use Rattle.std.proofs.lemmas.Nat.{mul-le}
use Rattle.rules.specs.declared.records.UnitType.{UnitType}
use Rattle.timetable.proofs.Indices.{length-mus}
use Rattle.timetable.proofs.day.instance.Instance.mus.Goals as goal

pub returns-clause-value : goal.returns-clause-value
returns-clause-value c =
    ap (λ (n : ℕ). n * c.len.result) c.stations.ensures.value
    ∙ ap (λ (n : ℕ). length c.args.self.now.stations * n) (c.len.ensures.value ∙ ap (λ (types : List UnitType). length types) c.types.ensures.value)
    ∙ sym (length-mus c.args.self.now)

pub returns-clause-few : goal.returns-clause-few
returns-clause-few c = mul-le c.stations.result c.len.result 60 6 c.stations.ensures.few c.len.ensures.few
