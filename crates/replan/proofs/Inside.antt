-- What a disturbed day that is at hand has inside: its later day, and the plan that ran.
use Rattle.std.proofs.Common.{◌≡◌, length, ap, subst, ◌∙◌}
use Rattle.timetable.specs.Accepted.{IsSoundDay}
use Rattle.timetable.specs.Day.{Day}
use Rattle.timetable.specs.DerivedDays.{without_trips}
use Rattle.timetable.specs.Running.{Runs}
use Rattle.replan.specs.Disturbances.{Disturbed, IsDisturbance, later_day, trips_later}
use Rattle.replan.specs.Laws.{IsUnderWay}

module _ (disturbed inside : Disturbed) (same : inside ≡ disturbed) (later : Day) (later_is : later ≡ without_trips inside.cancelled inside.day) where
  pub later_same : later ≡ later_day disturbed
  later_same = later_is ∙ ap (λ (d : Disturbed). later_day d) same

  pub trips_are : length later.trips ≡ trips_later disturbed
  trips_are = ap (λ (day : Day). length day.trips) later_same

  pub is_under_way : IsDisturbance inside → IsSoundDay inside.day → IsSoundDay later → Runs disturbed.day disturbed.plan → IsUnderWay disturbed
  is_under_way given sound later_sound runs = record {
    given = subst IsDisturbance same given;
    day = subst (λ (d : Disturbed). IsSoundDay d.day) same sound;
    later = subst IsSoundDay later_same later_sound;
    runs = runs;
  }
