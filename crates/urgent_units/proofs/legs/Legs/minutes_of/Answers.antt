use Rattle.std.proofs.Common.{◌≤◌, ◌<◌, ℕ, List, length, sym, subst, ◌∙◌}
use Rattle.std.specs.List.{AllPairs}
use Rattle.urgent_units.specs.LegParts.{AreLegs}
use Rattle.urgent_units.proofs.Parts.{minutes_ascend, minutes_few, minutes_found}
use Rattle.urgent_units.proofs.legs.Legs.minutes_of.Goals as goal

pub returns-clause-value : goal.returns-clause-value
returns-clause-value c =
    c.as_slice.ensures.value ∙ c.behind-self.view_is
    ∙ minutes_found c.args.self.now c.self.inside.units.items c.self.inside.minutes.items c.args.station c.place.result c.index.result.now
    c.self.invariant c.self.view_is c.requires c.place.ensures.number c.index.ensures

pub returns-clause-rise : goal.returns-clause-rise
returns-clause-rise c =
    subst (λ (minutes : List ℕ). AllPairs (λ a b. a < b) minutes) (sym (returns-clause-value c)) (minutes_ascend c.args.self.now c.args.station)

pub returns-clause-few : goal.returns-clause-few
returns-clause-few c =
    subst (λ (minutes : List ℕ). length minutes ≤ 3480) (sym (returns-clause-value c))
    (minutes_few c.args.self.now (subst AreLegs c.self.view_is c.self.invariant.legs) c.args.station)
