-- In a plan that runs each unit is in one place at a time.
use Rattle.std.proofs.Common.{inl, inr, ℕ, ◌<◌, ◌≤◌, List, [], ◌∷◌, length, Option, sym, subst, arith, ⊎_elim}
use Rattle.std.specs.Prelude.{IsTrue, option_map, unwrap_or}
use Rattle.std.specs.List.{All, AllPairs}
use Rattle.std.proofs.lemmas.Bool.{cases_lt, leb-true}
use Rattle.std.proofs.lemmas.List.Elements.{All-nil, All-cons, All-weaker}
use Rattle.std.proofs.lemmas.List.Kept.{AllPairs-cons}
use Rattle.std.proofs.lemmas.Option.{slice_get_past}
use Rattle.rules.specs.declared.records.Trip.{Trip}
use Rattle.timetable.specs.Accepted.{IsTimetable, AreLinks, DoMeet}
use Rattle.timetable.specs.Day.{Day, leaves, arrives}
use Rattle.timetable.specs.Duties.{duty}
use Rattle.timetable.specs.Laws.{GoesOnTo, UnitsAreInOnePlace}
use Rattle.timetable.specs.Links.{kept_with}
use Rattle.timetable.specs.Lists.{count_of, has}
use Rattle.timetable.specs.Running.{MayFollowOf, GoesByYardOf, EachFollows}
use Rattle.timetable.proofs.Linked.{StaysBy, stays_by_with}

-- every number of a trip has it leave before it arrives
takes_time : (day : Day) → IsTimetable day → (t : ℕ) → leaves day t < arrives day t
unfolding leaves arrives
takes_time day timetable t = elim (cases_lt t (length day.trips)) [
  | inl below ↦ timetable.time t below
  | inr past ↦
      let less : 0 < 1 = omega arith in
      subst (λ (o : Option Trip). unwrap_or (option_map (λ trip. trip.departure) o) 0 < unwrap_or (option_map (λ trip. trip.arrival) o) 1)
      (sym (slice_get_past day.trips t past)) less
]

-- a unit that may follow from one trip to another goes on from where and when it arrives
goes_on : (type_of : ℕ → ℕ) (day : Day) (plan : List (List ℕ)) → AreLinks day → DoMeet day → (u a b : ℕ) → MayFollowOf type_of day plan u a b → GoesOnTo day a b
goes_on type_of day plan links meet u a b follows = ⊎_elim
    (λ (in_train : IsTrue (has u (kept_with type_of day plan a b))).
    let by : StaysBy day a b = stays_by_with type_of day plan u a b (leb-true 1 (count_of u (kept_with type_of day plan a b)) in_train) in
    record {
      time = links.in_time by.number a b by.link by.at by.arriving by.departing;
      station = meet.station by.number a b by.link by.at by.arriving by.departing;
    })
    (λ (yard : GoesByYardOf type_of day plan u a b). let ready = yard.ready in record { time = omega arith; station = yard.station })
    follows

each_goes_on : (type_of : ℕ → ℕ) (day : Day) (plan : List (List ℕ)) → AreLinks day → DoMeet day → (u : ℕ) (trips : List ℕ) → EachFollows (MayFollowOf type_of day plan u) trips → EachFollows (GoesOnTo day) trips
each_goes_on type_of day plan links meet u [] follows = tt
each_goes_on type_of day plan links meet u (a ∷ []) follows = tt
each_goes_on type_of day plan links meet u (a ∷ b ∷ trips) follows = (goes_on type_of day plan links meet u a b follows.0, each_goes_on type_of day plan links meet u (b ∷ trips) follows.1)

-- where each trip goes on from the one before it, all later ones leave after it has arrived
later_leave : (day : Day) → IsTimetable day → (a : ℕ) (trips : List ℕ) → EachFollows (GoesOnTo day) (a ∷ trips) → All (λ b. arrives day a ≤ leaves day b) trips
later_leave day timetable a [] goes = All-nil (λ b. arrives day a ≤ leaves day b)
later_leave day timetable a (b ∷ trips) goes =
    let next : arrives day a ≤ leaves day b = (goes.0).time in
    let takes : leaves day b < arrives day b = takes_time day timetable b in
    All-cons (λ c. arrives day a ≤ leaves day c) b trips next
    (All-weaker (λ c. arrives day b ≤ leaves day c) (λ c. arrives day a ≤ leaves day c) (λ c later. omega arith) trips (later_leave day timetable b trips goes.1))

all_apart : (day : Day) → IsTimetable day → (trips : List ℕ) → EachFollows (GoesOnTo day) trips → AllPairs (λ a b. arrives day a ≤ leaves day b) trips
all_apart day timetable [] goes = λ i j d before below. absurd (omega arith)
all_apart day timetable (a ∷ []) goes = λ i j d before below. absurd (omega arith)
all_apart day timetable (a ∷ b ∷ trips) goes =
    AllPairs-cons (λ a b. arrives day a ≤ leaves day b) a (b ∷ trips) (later_leave day timetable a (b ∷ trips) goes) (all_apart day timetable (b ∷ trips) goes.1)

pub units_are_in_one_place : UnitsAreInOnePlace
units_are_in_one_place units day plan u timetable links meet runs known =
    let goes : EachFollows (GoesOnTo day) (duty day plan u) = each_goes_on units.unit_type day plan links meet u (duty day plan u) (runs.follows u known) in
    record { follows = goes; apart = all_apart day timetable (duty day plan u) goes }
