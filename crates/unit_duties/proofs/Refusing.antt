-- Picks that break a link or leave a yard with a fault have no plan that runs, and the yards serve all others.
use Rattle.std.proofs.Common.{◌≡◌, ◌∙◌, List, [], ℕ, Option, None, ℤ, pos, sym, ap, subst, arith}
use Rattle.std.specs.Prelude.{◌≤ℤ◌, ◌<ℤ◌}
use Rattle.std.proofs.lemmas.Bool.{false≢true}
use Rattle.std.proofs.lemmas.Int.{ints}
use Rattle.std.proofs.lemmas.Option.{slice_get_within}
use Rattle.timetable.specs.Accepted.{IsDay, AreLinks, IsStocked}
use Rattle.timetable.specs.Day.{Day}
use Rattle.timetable.specs.Picks.{ArePicks, picked, IsSolution}
use Rattle.inventory.specs.declared.faults.StockFault.{StockFault}
use Rattle.inventory.specs.declared.faults.StockFault.TheVariants.{Short, Balance}
use Rattle.inventory.specs.Counts.{AreServed}
use Rattle.inventory.specs.Loaded.{Loaded}
use Rattle.inventory.specs.StockFaults.{IsFault, IsFirstFault}
use Rattle.inventory.proofs.Solutions.{solutions_are_served, faults_decide}
use Rattle.unit_duties.specs.Broken.{AreAdmissible, EachHolds, IsFirstBroken}

-- the fault that a ledger tells of a day, once picks were loaded
pub fault_of : (day : Day) (picks : List ℕ) (ledger loaded : Loaded) (told fault : Option StockFault) → ledger ≡ record { day = day; lists = [] }
    → loaded ≡ record { day = ledger.day; lists = picked ledger.day picks } → IsFirstFault loaded.day loaded.lists told → told ≡ fault → IsFirstFault day (picked day picks) fault
fault_of day picks ledger loaded told fault new load is e =
    subst (IsFirstFault day (picked day picks)) e
    (subst (λ (v : Loaded). IsFirstFault v.day v.lists told) (load ∙ ap (λ (v : Loaded). record { day = v.day; lists = picked v.day picks }) new) is)

-- yards with a fault are not without one
not_below : (x y : ℤ) → x ≡ y → x <ℤ pos 0 → pos 0 ≤ℤ y → ⊥
not_below x y e lt le = omega (arith, ints)

faulty : (day : Day) (lists : List (List ℕ)) (fault : StockFault) → IsFault day lists fault → IsFirstFault day lists None → ⊥
faulty day lists (Short station unit_type place count) fault none = not_below count _ fault.is fault.negative (none.0 station unit_type place fault.yard fault.known)
faulty day lists (Balance station unit_type count) fault none = fault.1.differs (fault.1.is ∙ none.1 station unit_type fault.1.yard)

module _ (day : Day) (picks : List ℕ) (is_day : IsDay day) (links : AreLinks day) (are_picks : ArePicks day picks) (stocked : IsStocked day) where
  pub serve : AreAdmissible day picks → EachHolds day (picked day picks) → IsFirstFault day (picked day picks) None → AreServed day (picked day picks)
  serve admissible holds none =
      (solutions_are_served day picks is_day links stocked are_picks).0 ((faults_decide day picks is_day links stocked are_picks).1 (
        record { admissible = admissible.each; links = λ l link at. holds l link (slice_get_within day.links l link at) at },
        none,
      ))

  pub broken_not_solved : (l : ℕ) → IsFirstBroken day (picked day picks) l → IsSolution day picks → ⊥
  broken_not_solved l broken solution =
      let rules = ((faults_decide day picks is_day links stocked are_picks).0 solution).0 in
      false≢true (sym broken.broken ∙ rules.links l broken.link broken.at)

  pub faulty_not_solved : (fault : StockFault) → IsFault day (picked day picks) fault → IsSolution day picks → ⊥
  faulty_not_solved fault is solution = faulty day (picked day picks) fault is ((faults_decide day picks is_day links stocked are_picks).0 solution).1
