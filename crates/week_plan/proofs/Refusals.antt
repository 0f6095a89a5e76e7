-- Days are never refused for want of memory.
use Rattle.std.proofs.Common.{ℕ, suc, List, [], ◌∷◌, inl, inr}
use Rattle.std.specs.Prelude.{MatchOption, None, Option, Some, ⊤}
use Rattle.timetable.specs.Day.{Day}
use Rattle.week_units.specs.declared.refusal.WeekRefusal.{WeekRefusal}
use Rattle.week_units.specs.declared.refusal.WeekRefusal.TheVariants.{TypesDiffer, StationsDiffer, NightDiffers, LateTrip, NoMemory}
use Rattle.week_units.specs.Weeks.{AreWeek, IsFirstFault, IsFirstFaultFrom}
use Rattle.week_plan.specs.WeekAnswers.{fault_said}

never_from : (number : ℕ) (first before : Day) (days : List Day) → IsFirstFaultFrom number first before days NoMemory → ⊥
never_from number first before [] fault = fault
never_from number first before (day ∷ days) fault = elim fault [
  | inl here ↦ here
  | inr later ↦ never_from (suc number) first day days later.1
]

never_memory : (days : List Day) → IsFirstFault days NoMemory → ⊥
never_memory [] fault = fault
never_memory (day ∷ days) fault = never_from 2 day day days fault

pub fault_is_said : (days : List Day) (why : WeekRefusal) → IsFirstFault days why → MatchOption (fault_said why) (AreWeek days) (IsFirstFault days)
fault_is_said days (TypesDiffer day) fault = fault
fault_is_said days (StationsDiffer day) fault = fault
fault_is_said days (NightDiffers day station unit_type end start) fault = fault
fault_is_said days (LateTrip day trip) fault = fault
fault_is_said days NoMemory fault = absurd (never_memory days fault)

-- what is so anyway is so where a fault is said
pub so_anyway : {P : Type 0} → (said : Option WeekRefusal) → P → MatchOption said ⊤ (λ _. P)
so_anyway None so = tt
so_anyway (Some why) so = so
