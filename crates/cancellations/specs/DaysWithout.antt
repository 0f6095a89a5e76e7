-- The later day: a day without the trips that are cancelled.
use Rattle.std.specs.Prelude.{ℕ, ◌≡◌, List}
use Rattle.timetable.specs.Day.{Day}
use Rattle.timetable.specs.DerivedDays.{old_numbers, without_trips}
use Rattle.cancellations.specs.declared.later_day.Later.{Later}

-- the later day of a day without these trips, with the numbers that its trips had before
pub record IsLaterOf (day : Day) (cancelled : List ℕ) (later : Later) : Type 0 where
  pub instance_is : later.instance ≡ without_trips cancelled day
  pub numbers_are : later.numbers.items ≡ old_numbers day cancelled
