-- The index is the number of the place among its kind, after those before its kind.
use Rattle.std.proofs.Common.{◌+◌, ◌*◌, ◌∙◌, ℕ, List, length, ap, sym, subst}
use Rattle.rules.specs.declared.records.UnitType.{UnitType}
use Rattle.timetable.specs.Indices.{IsPlace, IsIndexOf}
use Rattle.timetable.specs.Lists.{sum_below}
use Rattle.timetable.specs.Minutes.{minutes_of}
use Rattle.timetable.specs.declared.day.indices.Place.{Place}
use Rattle.timetable.proofs.Indices.{lambda_index, mu_index, sigma_index}
use Rattle.timetable.proofs.day.instance.Instance.index.Goals as goal

pub returns-in-Lambda : goal.returns-in-Lambda
returns-in-Lambda c =
    subst (λ (place : Place). IsIndexOf c.args.self.now place (c.len-types.result * c.minutes_before.result + c.number_in_rows.result)) (sym c.in-Lambda.is)
    (lambda_index c.args.self.now c.in-Lambda.station c.in-Lambda.unit_type c.in-Lambda.place c.len-types.result c.minutes_before.result (length c.minutes.result.now) c.number_in_rows.result
    (subst (IsPlace c.args.self.now) c.in-Lambda.is c.requires)
    (c.len-types.ensures.value ∙ ap (λ (types : List UnitType). length types) c.types.ensures.value)
    (c.minutes_before.ensures.value ∙ ap (sum_below (λ s. length (minutes_of c.args.self.now s))) c.station.view_is)
    (ap (λ (minutes : List ℕ). length minutes) c.minutes.ensures.value)
    (c.number_in_rows.ensures.value ∙ ap (λ (m : ℕ). m * length c.minutes.result.now + c.in-Lambda.place) c.unit_type.view_is))

pub returns-in-Mu : goal.returns-in-Mu
returns-in-Mu c =
    subst (λ (place : Place). IsIndexOf c.args.self.now place (c.free_from.result + c.number_in_rows-in-Mu.result)) (sym c.in-Mu.is)
    (mu_index c.args.self.now c.in-Mu.station c.in-Mu.unit_type c.free_from.result c.len-types-in-Mu.result c.number_in_rows-in-Mu.result
    (subst (IsPlace c.args.self.now) c.in-Mu.is c.requires) c.free_from.ensures.value
    (c.len-types-in-Mu.ensures.value ∙ ap (λ (types : List UnitType). length types) c.types-in-Mu.ensures.value)
    (c.number_in_rows-in-Mu.ensures.value ∙ ap (λ (s : ℕ). s * c.len-types-in-Mu.result + c.unit_type-in-Mu.inside.0) c.station-in-Mu.view_is
    ∙ ap (λ (m : ℕ). c.in-Mu.station * c.len-types-in-Mu.result + m) c.unit_type-in-Mu.view_is))

pub returns-in-Sigma : goal.returns-in-Sigma
returns-in-Sigma c =
    subst (λ (place : Place). IsIndexOf c.args.self.now place (c.free_from-in-Sigma.result + c.mus.result + c.number_in_rows-in-Sigma.result)) (sym c.in-Sigma.is)
    (sigma_index c.args.self.now c.in-Sigma.handover c.in-Sigma.comp c.free_from-in-Sigma.result c.mus.result c.len-comps.result c.number_in_rows-in-Sigma.result
    (subst (IsPlace c.args.self.now) c.in-Sigma.is c.requires) c.free_from-in-Sigma.ensures.value c.mus.ensures.value
    (c.len-comps.ensures.value ∙ ap (λ (lists : List (List ℕ)). length lists) c.catalogue.ensures)
    (c.number_in_rows-in-Sigma.ensures.value ∙ ap (λ (comp : ℕ). c.in-Sigma.handover * c.len-comps.result + comp) c.comp.view_is))
