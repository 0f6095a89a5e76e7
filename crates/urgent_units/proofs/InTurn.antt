-- The legs of a unit in a plan that runs leave one after another, each from where the unit has come and once it is ready
-- there, and the last of them ends at the unit's last place.
use Rattle.std.proofs.Common.{◌≡◌, ℕ, ◌+◌, ◌≤◌, ◌<◌, Bool, false, List, [], ◌∷◌, length, map, refl, sym, ap, ◌∙◌, subst, arith, inl, inr}
use Rattle.std.proofs.lemmas.Bool.{cases_Bool, cond-true, cond-false, false≢true}
use Rattle.timetable.specs.Day.{Day, leaves, arrives, from_of, to_of, ready_at}
use Rattle.timetable.specs.Duties.{ends_at}
use Rattle.timetable.specs.Laws.{GoesOnTo}
use Rattle.rules.proofs.OfTheStock.{MayFollow}
use Rattle.timetable.specs.Running.{EachFollows}
use Rattle.urgent_units.specs.declared.legs.Leg.{Leg}
use Rattle.urgent_units.specs.Legs.{leg_of, stays, end_of}
use Rattle.urgent_units.specs.Runs.{runs_of, with_trip}
use Rattle.urgent_units.proofs.Crossing.{InTurn}

-- ---- the first run of a list of trips begins with the first trip

pub record Starts (goes : ℕ → ℕ → Bool) (t : ℕ) (ts : List ℕ) : Type 0 where
  pub more : List ℕ
  pub others : List (List ℕ)
  pub is : runs_of goes (t ∷ ts) ≡ (t ∷ more) ∷ others

pub starts : (goes : ℕ → ℕ → Bool) (t : ℕ) (ts : List ℕ) → Starts goes t ts
starts goes t [] = record { more = []; others = []; is = refl }
starts goes t (b ∷ ts) =
    let rest = starts goes b ts in
    let runs = ap (with_trip goes t) rest.is in
    elim (cases_Bool (goes t b)) [
      | inl goes_on ↦ record {
        more = b ∷ rest.more;
        others = rest.others;
        is = runs ∙ cond-true (goes t b) ((t ∷ b ∷ rest.more) ∷ rest.others) ((t ∷ []) ∷ (b ∷ rest.more) ∷ rest.others) goes_on;
      }
      | inr ends ↦ record {
        more = [];
        others = (b ∷ rest.more) ∷ rest.others;
        is = runs ∙ cond-false (goes t b) ((t ∷ b ∷ rest.more) ∷ rest.others) ((t ∷ []) ∷ (b ∷ rest.more) ∷ rest.others) ends;
      }
    ]

-- ---- in turn

-- trips of the day
abbrev pub AreTrips : Day → List ℕ → Type 0
AreTrips day [] = Unit {0}
AreTrips day (t ∷ ts) = (t < length day.trips) × AreTrips day ts

module _ (day : Day) (takes_time : (t : ℕ) → t < length day.trips → leaves day t < arrives day t) (plan : List (List ℕ)) (u : ℕ) where
  abbrev legs_from : ℕ → List ℕ → List Leg
  legs_from t ts = map (leg_of day) (runs_of (stays day plan u) (t ∷ ts))

  by_yard : (a b : ℕ) → MayFollow day plan u a b → stays day plan u a b ≡ false → (to_of day a ≡ from_of day b) × (ready_at day a ≤ leaves day b)
  by_yard a b (inl stay) ends = absurd (false≢true (sym ends ∙ stay))
  by_yard a b (inr yard) ends = (yard.station, yard.ready)

  pub in_turn : (ts : List ℕ) (t at since : ℕ) → from_of day t ≡ at → since ≤ leaves day t + 1 → AreTrips day (t ∷ ts) → EachFollows (MayFollow day plan u) (t ∷ ts) → EachFollows (GoesOnTo day) (t ∷ ts)
      → InTurn at since (legs_from t ts)
  in_turn [] t at since here ready known follows goes = (here, ready, omega (arith, takes_time t known.0), tt)
  in_turn (b ∷ ts) t at since here ready known follows goes =
      let rest = starts (stays day plan u) b ts in
      let turn : InTurn (from_of day b) (leaves day b + 1) (map (leg_of day) ((b ∷ rest.more) ∷ rest.others)) =
      subst (λ (runs : List (List ℕ)). InTurn (from_of day b) (leaves day b + 1) (map (leg_of day) runs)) rest.is
      (in_turn ts b (from_of day b) (leaves day b + 1) refl (omega arith) known.1 follows.1 goes.1) in
      let runs = ap (with_trip (stays day plan u) t) rest.is in
      elim (cases_Bool (stays day plan u t b)) [
        | inl stay ↦
            let is = runs ∙ cond-true (stays day plan u t b) ((t ∷ b ∷ rest.more) ∷ rest.others) ((t ∷ []) ∷ (b ∷ rest.more) ∷ rest.others) stay in
            subst (λ (runs : List (List ℕ)). InTurn at since (map (leg_of day) runs)) (sym is)
            (here, ready, omega (arith, takes_time t known.0, goes.0.time, turn.2), turn.3)
        | inr ends ↦
            let is = runs ∙ cond-false (stays day plan u t b) ((t ∷ b ∷ rest.more) ∷ rest.others) ((t ∷ []) ∷ (b ∷ rest.more) ∷ rest.others) ends in
            let yard = by_yard t b follows.0 ends in
            subst (λ (runs : List (List ℕ)). InTurn at since (map (leg_of day) runs)) (sym is)
            (here, ready, omega (arith, takes_time t known.0), (sym yard.0, omega (arith, yard.1), turn.2, turn.3))
      ]

  -- they end where the trips do
  pub end_of_trips : (ts : List ℕ) (t at : ℕ) → end_of at (legs_from t ts) ≡ ends_at day (to_of day t) ts
  end_of_trips [] t at = refl
  end_of_trips (b ∷ ts) t at =
      let rest = starts (stays day plan u) b ts in
      let later = ap (λ (runs : List (List ℕ)). end_of at (map (leg_of day) runs)) (sym rest.is) ∙ end_of_trips ts b at in
      let runs = ap (with_trip (stays day plan u) t) rest.is in
      elim (cases_Bool (stays day plan u t b)) [
        | inl stay ↦ ap (λ (runs : List (List ℕ)). end_of at (map (leg_of day) runs)) (runs ∙ cond-true (stays day plan u t b) ((t ∷ b ∷ rest.more) ∷ rest.others) ((t ∷ []) ∷ (b ∷ rest.more) ∷ rest.others) stay) ∙ later
        | inr ends ↦ ap (λ (runs : List (List ℕ)). end_of at (map (leg_of day) runs)) (runs ∙ cond-false (stays day plan u t b) ((t ∷ b ∷ rest.more) ∷ rest.others) ((t ∷ []) ∷ (b ∷ rest.more) ∷ rest.others) ends) ∙ later
      ]

  -- the stations where legs leave and end are there
  abbrev pub AtStations : List Leg → Type 0
  AtStations [] = Unit {0}
  AtStations (leg ∷ legs) = (leg.from < length day.stations) × (leg.to < length day.stations) × AtStations legs

  pub at_stations : ((t : ℕ) → t < length day.trips → from_of day t < length day.stations) → ((t : ℕ) → t < length day.trips → to_of day t < length day.stations) → (ts : List ℕ) (t : ℕ)
      → AreTrips day (t ∷ ts) → AtStations (legs_from t ts)
  at_stations origin goal [] t known = (origin t known.0, goal t known.0, tt)
  at_stations origin goal (b ∷ ts) t known =
      let rest = starts (stays day plan u) b ts in
      let there : AtStations (map (leg_of day) ((b ∷ rest.more) ∷ rest.others)) = subst (λ (runs : List (List ℕ)). AtStations (map (leg_of day) runs)) rest.is (at_stations origin goal ts b known.1) in
      let runs = ap (with_trip (stays day plan u) t) rest.is in
      elim (cases_Bool (stays day plan u t b)) [
        | inl stay ↦
            let is = runs ∙ cond-true (stays day plan u t b) ((t ∷ b ∷ rest.more) ∷ rest.others) ((t ∷ []) ∷ (b ∷ rest.more) ∷ rest.others) stay in
            subst (λ (runs : List (List ℕ)). AtStations (map (leg_of day) runs)) (sym is) (origin t known.0, there.1, there.2)
        | inr ends ↦
            let is = runs ∙ cond-false (stays day plan u t b) ((t ∷ b ∷ rest.more) ∷ rest.others) ((t ∷ []) ∷ (b ∷ rest.more) ∷ rest.others) ends in
            subst (λ (runs : List (List ℕ)). AtStations (map (leg_of day) runs)) (sym is) (origin t known.0, goal t known.0, there)
      ]
