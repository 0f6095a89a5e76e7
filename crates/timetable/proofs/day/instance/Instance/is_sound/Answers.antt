-- What is known of every instance.
use Rattle.std.proofs.Common.{◌≤◌, ℕ, List, length, subst}
use Rattle.timetable.specs.Accepted.{IsSoundDay}
use Rattle.timetable.specs.Compositions.{compositions_of, greatest_platform}
use Rattle.timetable.specs.Day.{Day}
use Rattle.timetable.specs.InstanceParts.{day_in}
use Rattle.timetable.proofs.FewPlaces.{few_places}
use Rattle.timetable.proofs.day.instance.Instance.is_sound.Goals as goal

pub returns : goal.returns
unfolding greatest_platform
returns c =
    let day : Day = day_in c.self.inside in
    let compositions : length (compositions_of day) ≤ 1000 = subst (λ (cs : List (List ℕ)). length cs ≤ 1000) c.self.invariant.catalogue c.self.invariant.few_compositions in
    subst IsSoundDay c.self.view_is (record {
      limits = c.self.invariant.day;
      names = c.self.invariant.names;
      links = c.self.invariant.links;
      meet = c.self.invariant.meet;
      stock = c.self.invariant.stocked;
      served = c.self.invariant.served;
      compositions = compositions;
      indices = few_places day c.self.invariant.day.timetable c.self.invariant.links compositions;
    })
