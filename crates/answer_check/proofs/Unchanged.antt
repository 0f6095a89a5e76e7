-- A day that nothing is changed on means what the day does.
use Rattle.std.proofs.Common.{◌≡◌, ℕ, ◌+◌, List, Bool, pos, arith, length, sym, ◌∙◌, ap, subst}
use Rattle.timetable.specs.Compositions.{compositions_of}
use Rattle.timetable.specs.Cost.{cost_of}
use Rattle.timetable.specs.Day.{Day}
use Rattle.timetable.specs.Picks.{picked}
use Rattle.branch_tree.specs.Meanings.{Meanings}
use Rattle.branch_tree.specs.Regions.{IsOver, root_of}
use Rattle.branch_tree.proofs.Over.{roots_are_over}
use Rattle.price_bound.specs.ChangedDays.{ChangedDay, changed_meanings, unchanged}
use Rattle.price_bound.specs.DayMeanings.{meanings_of}

pub nothing_added : (n : ℕ) → n + 0 ≡ n
nothing_added n = omega arith

-- a day that nothing is changed on means what the day does
pub unchanged_means : (day : Day) → changed_meanings (unchanged day) ≡ meanings_of day
unchanged_means day = λ i. record (meanings_of day) { cost = λ picks. pos (nothing_added (cost_of day (picked day picks)) i) }

pub root_over : (day : Day) (bounds : ChangedDay) (n : ℕ) (root : List (List Bool)) → bounds ≡ unchanged day → n ≡ length bounds.day.trips
    → root ≡ root_of day → IsOver n (compositions_of bounds.day) root
root_over day bounds n root is trips rooted =
    subst (λ (k : ℕ). IsOver k (compositions_of bounds.day) root) (sym trips)
    (subst (λ (b : ChangedDay). IsOver (length b.day.trips) (compositions_of b.day) root) (sym is)
    (subst (λ (r : List (List Bool)). IsOver (length day.trips) (compositions_of day) r) (sym rooted) (roots_are_over day)))

-- the meanings and the root of the day, for a day that nothing is changed on
pub at_day : (day : Day) (bounds : ChangedDay) (root : List (List Bool)) (P : Meanings → List (List Bool) → Type 0) → bounds ≡ unchanged day
    → root ≡ root_of day → P (changed_meanings bounds) root → P (meanings_of day) (root_of day)
at_day day bounds root P is rooted holds =
    subst (λ (m : Meanings). P m (root_of day)) (ap changed_meanings is ∙ unchanged_means day)
    (subst (λ (r : List (List Bool)). P (changed_meanings bounds) r) rooted holds)
