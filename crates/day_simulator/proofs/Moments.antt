-- Moments, in minutes.
use Rattle.std.proofs.Common.{◌≡◌, ◌≢◌, ◌<◌, inl, inr, ⊎_elim, arith}
use Rattle.std.proofs.lemmas.Bool.{cases_eq}
use Rattle.timetable.specs.Day.{leaves, arrives}
use Rattle.day_simulator.specs.declared.events.DayEvent.TheVariants.{Depart, Arrive}
use Rattle.day_simulator.specs.State.{moment_of}
use Rattle.day_simulator.specs.Moments.{MomentsAreOfMinutes}

pub moments_are_of_minutes : MomentsAreOfMinutes
unfolding moment_of
moments_are_of_minutes day (Arrive s) (Arrive t) = (
  (λ before. inl (omega (arith, before))),
  ⊎_elim (λ (less : arrives day s < arrives day t). omega (arith, less)) (λ (same : (arrives day s ≡ arrives day t) × ⊥). absurd same.1),
)
moments_are_of_minutes day (Arrive s) (Depart t) = (
  (λ before.
      ⊎_elim (λ (same : arrives day s ≡ leaves day t). inr (same, tt)) (λ (ne : arrives day s ≢ leaves day t). inl (omega (arith, before, ne)))
      (cases_eq (arrives day s) (leaves day t))),
  ⊎_elim (λ (less : arrives day s < leaves day t). omega (arith, less)) (λ (same : (arrives day s ≡ leaves day t) × (Unit {0})). omega (arith, same.0)),
)
moments_are_of_minutes day (Depart s) (Arrive t) = (
  (λ before. inl (omega (arith, before))),
  ⊎_elim (λ (less : leaves day s < arrives day t). omega (arith, less)) (λ (same : (leaves day s ≡ arrives day t) × ⊥). absurd same.1),
)
moments_are_of_minutes day (Depart s) (Depart t) = (
  (λ before. inl (omega (arith, before))),
  ⊎_elim (λ (less : leaves day s < leaves day t). omega (arith, less)) (λ (same : (leaves day s ≡ leaves day t) × ⊥). absurd same.1),
)
