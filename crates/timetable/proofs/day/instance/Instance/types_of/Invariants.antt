use Rattle.std.proofs.Common.{◌≡◌, take, IsTrue}
use Rattle.compositions.specs.Composition.{are_types}
use Rattle.timetable.specs.Day.{types_of}
use Rattle.timetable.proofs.day.instance.Instance.types_of.Given as goal

abbrev pub invariant-loop-unit : goal.invariant-loop-unit
invariant-loop-unit l = record {
  types : l.types.items ≡ types_of l.self (take l.unit-index l.units);
  known : IsTrue (are_types l.self.types l.types.items);
}
