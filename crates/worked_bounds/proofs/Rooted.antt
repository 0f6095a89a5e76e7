-- The root of a day is over what the bounds of that day mean.
use Rattle.std.proofs.Common.{◌≡◌, List, Bool, length, sym, subst}
use Rattle.timetable.specs.Compositions.{compositions_of}
use Rattle.timetable.specs.Day.{Day}
use Rattle.branch_tree.specs.Regions.{IsOver, root_of}
use Rattle.branch_tree.proofs.Over.{roots_are_over}
use Rattle.price_bound.specs.ChangedDays.{ChangedDay, unchanged}

pub root_over : (day : Day) (bounds : ChangedDay) (root : List (List Bool)) → bounds ≡ unchanged day → root ≡ root_of day
    → IsOver (length bounds.day.trips) (compositions_of bounds.day) root
root_over day bounds root is rooted =
    subst (λ (b : ChangedDay). IsOver (length b.day.trips) (compositions_of b.day) root) (sym is)
    (subst (λ (r : List (List Bool)). IsOver (length day.trips) (compositions_of day) r) (sym rooted) (roots_are_over day))
