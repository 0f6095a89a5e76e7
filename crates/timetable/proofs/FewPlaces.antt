-- An accepted day has not too many multipliers.
use Rattle.std.proofs.Common.{◌+◌, ◌*◌, ◌≤◌, ◌++◌, ℕ, length, arith, length-append}
use Rattle.std.proofs.lemmas.Nat.{mul-le}
use Rattle.timetable.specs.Accepted.{IsTimetable, AreLinks}
use Rattle.timetable.specs.Compositions.{compositions_of}
use Rattle.timetable.specs.Day.{Day}
use Rattle.timetable.specs.Handovers.{handovers_of}
use Rattle.timetable.specs.Indices.{lambdas_of, mus_of, sigmas_of, places_of}
use Rattle.timetable.specs.Lists.{sum_below}
use Rattle.timetable.specs.Minutes.{minutes_of}
use Rattle.timetable.proofs.Ends.{few_ends}
use Rattle.timetable.proofs.Indices.{length-lambdas, length-mus, length-sigmas}
use Rattle.timetable.proofs.Minutes.{few_minutes_before}

pub few_places : (day : Day) → IsTimetable day → AreLinks day → length (compositions_of day) ≤ 1000 → length (places_of day) ≤ 6 * 400 + 60 * 6 + 266 * 1000
few_places day timetable links compositions =
    let minutes : ℕ = sum_below (λ s. length (minutes_of day s)) (length day.stations) in
    let few_minutes : minutes ≤ 400 = omega (arith, few_minutes_before day (length day.stations), timetable.trip_count) in
    let few_handovers : length (handovers_of day) ≤ 266 = omega (arith, few_ends day links, timetable.trip_count) in
    let lambdas : length day.types * minutes ≤ 6 * 400 = mul-le (length day.types) minutes 6 400 timetable.type_count few_minutes in
    let mus : length day.stations * length day.types ≤ 60 * 6 = mul-le (length day.stations) (length day.types) 60 6 timetable.station_count timetable.type_count in
    let sigmas : length (handovers_of day) * length (compositions_of day) ≤ 266 * 1000 = mul-le (length (handovers_of day)) (length (compositions_of day)) 266 1000 few_handovers compositions in
    omega (
      arith,
      lambdas,
      mus,
      sigmas,
      length-lambdas day,
      length-mus day,
      length-sigmas day,
      length-append (lambdas_of day) (mus_of day ++ sigmas_of day),
      length-append (mus_of day) (sigmas_of day),
    )
