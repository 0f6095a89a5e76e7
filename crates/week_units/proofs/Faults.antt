-- Why days make no week, from the second day on.
use Rattle.std.proofs.Common.{◌≡◌, ℕ, suc, List, [], ◌∷◌, ◌∙◌, All, MatchOption, None, Option, Some, sym, subst, inl, inr}
use Rattle.std.proofs.lemmas.List.Elements.{All-cons}
use Rattle.timetable.specs.Accepted.{IsSoundDay}
use Rattle.timetable.specs.Day.{Day}
use Rattle.week_units.specs.declared.refusal.WeekRefusal.{WeekRefusal}
use Rattle.week_units.specs.declared.refusal.WeekRefusal.TheVariants.{TypesDiffer, StationsDiffer, NightDiffers, LateTrip, NoMemory}
use Rattle.week_units.specs.Laws.{WeeksHaveNoFault}
use Rattle.week_units.specs.Weeks.{AreWeek, EachGoesOn, GoesOnFrom, IsFaultOf, IsFirstFault, IsFirstFaultFrom}

pub of_week : (days : List Day) (first : Day) (rest : List Day) (fault : Option WeekRefusal) → days ≡ first ∷ rest → IsSoundDay first
    → MatchOption fault (All IsSoundDay rest × EachGoesOn first first rest) (IsFirstFaultFrom 2 first first rest) → MatchOption fault (AreWeek days) (IsFirstFault days)
of_week days first rest None are sound each = subst AreWeek (sym are) (All-cons IsSoundDay first rest sound each.0, each.1)
of_week days first rest (Some why) are sound each = subst (λ (ds : List Day). IsFirstFault ds why) (sym are) each

-- ---- days that make a week have no fault

none_of_day : (number : ℕ) (first before day : Day) (why : WeekRefusal) → GoesOnFrom first before day → IsFaultOf number first before day why → ⊥
none_of_day number first before day (TypesDiffer said) goes fault = fault.1 goes.rows.types
none_of_day number first before day (StationsDiffer said) goes fault = fault.2 goes.rows.stations
none_of_day number first before day (NightDiffers said station unit_type end start) goes fault =
    let found = fault.2 in
    found.differ (found.at_end ∙ goes.begins station unit_type found.yard ∙ sym found.at_start)
none_of_day number first before day (LateTrip said trip) goes fault =
    let found = fault.3 in goes.in_time trip found.known found.late
none_of_day number first before day NoMemory goes fault = fault

none_from : (number : ℕ) (first before : Day) (days : List Day) (why : WeekRefusal) → EachGoesOn first before days
    → IsFirstFaultFrom number first before days why → ⊥
none_from number first before [] why each fault = fault
none_from number first before (day ∷ days) why each fault = elim fault [
  | inl here ↦ none_of_day number first before day why each.0 here
  | inr later ↦ none_from (suc number) first day days why each.1 later.1
]

pub no_fault : WeeksHaveNoFault
no_fault [] why week fault = fault
no_fault (day ∷ days) why week fault = none_from 2 day day days why week.1 fault
