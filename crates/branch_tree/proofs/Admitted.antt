-- A number past the catalogue is of no admissible composition.
use Rattle.std.proofs.Common.{◌≡◌, ℕ, ◌≤◌, [], false, length, unwrap_or, refl, ◌∙◌, ap}
use Rattle.std.proofs.lemmas.Option.{slice_get_past}
use Rattle.timetable.specs.Day.{Day}
use Rattle.timetable.specs.Admissible.{is_admissible}
use Rattle.timetable.specs.Compositions.{compositions_of, composition_at}

no_list : (day : Day) (trip : ℕ) → is_admissible day trip [] ≡ false
unfolding is_admissible
no_list day trip = refl

pub none_past : (day : Day) (trip comp : ℕ) → length (compositions_of day) ≤ comp → is_admissible day trip (composition_at day comp) ≡ false
none_past day trip comp past = ap (λ found. is_admissible day trip (unwrap_or found [])) (slice_get_past (compositions_of day) comp past) ∙ no_list day trip
