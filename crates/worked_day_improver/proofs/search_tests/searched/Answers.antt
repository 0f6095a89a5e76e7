use Rattle.std.proofs.Common.{List, Bool, length, sym, subst}
use Rattle.timetable.specs.Compositions.{compositions_of}
use Rattle.branch_tree.specs.Regions.{IsOver}
use Rattle.branch_tree.proofs.Over.{roots_are_over}
use Rattle.price_bound.specs.ChangedDays.{ChangedDay}
use Rattle.worked_day_improver.proofs.search_tests.searched.Goals as goal

pub found_by-requires-clause-over : goal.found_by-requires-clause-over
found_by-requires-clause-over g c =
    subst (λ (bounds : ChangedDay). IsOver (length bounds.day.trips) (compositions_of bounds.day) c.in_ok-root.root) (sym c.in_ok-bounds.ensures)
    (subst (λ (root : List (List Bool)). IsOver (length c.args.day.now.trips) (compositions_of c.args.day.now) root) (sym c.in_ok-root.ensures) (roots_are_over c.args.day.now))
