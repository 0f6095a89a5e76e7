-- Legs that are made from the last trip of a duty on.
use Rattle.std.proofs.Common.{◌≡◌, ℕ, zero, suc, ◌+◌, ◌≤◌, ◌<◌, Bool, true, false, List, [], ◌∷◌, ◌++◌, length, map, drop, reverse, refl, sym, ap, ◌∙◌, subst, arith, inl, inr, get_or}
use Rattle.std.proofs.Common.{Some, unwrap_or}
use Rattle.std.specs.Prelude.{if◌then◌else◌, not, slice_get}
use Rattle.std.specs.List.{All}
use Rattle.std.proofs.Math.Seq.{drop-cons}
use Rattle.std.proofs.lemmas.Bool.{cases_Bool, leb-true, false≢true}
use Rattle.std.proofs.lemmas.List.{reverse-append, map-append}
use Rattle.std.proofs.lemmas.List.Elements.{All-nil, All-cons, All-head, All-tail}
use Rattle.timetable.specs.Accepted.{IsDay, AreLinks}
use Rattle.timetable.specs.Day.{Day, unit_count}
use Rattle.timetable.specs.Duties.{duty}
use Rattle.timetable.specs.Links.{kept, given}
use Rattle.timetable.specs.Lists.{count_of, has, below, listed}
use Rattle.timetable.proofs.Listing.{get_listed}
use Rattle.unit_duties.specs.declared.stops.Stop.{Stop}
use Rattle.unit_duties.specs.Stops.{stop_on, stops_of, duties_of}
use Rattle.rules.proofs.OfTheStock.{MayFollow}
use Rattle.timetable.specs.Running.{Runs, EachFollows}
use Rattle.inventory.proofs.OnDuty.{stays as kept_apart}
use Rattle.urgent_units.specs.declared.legs.Leg.{Leg}
use Rattle.urgent_units.specs.LegParts.{with_leg}
use Rattle.urgent_units.specs.Legs.{leg_of, stays}
use Rattle.urgent_units.specs.Runs.{runs_of, with_trip, first_of}
use Rattle.urgent_units.proofs.InTurn.{starts}

-- ---- a list and its reverse

all_front : {X : Type 0} (P : X → Type 0) (xs ys : List X) → All P (xs ++ ys) → All P xs
all_front P [] ys each = All-nil P
all_front P (x ∷ xs) ys each = All-cons P x xs (All-head P x (xs ++ ys) each) (all_front P xs ys (All-tail P x (xs ++ ys) each))

all_back : {X : Type 0} (P : X → Type 0) (xs ys : List X) → All P (xs ++ ys) → All P ys
all_back P [] ys each = each
all_back P (x ∷ xs) ys each = all_back P xs ys (All-tail P x (xs ++ ys) each)

pub all_of_reverse : {X : Type 0} (P : X → Type 0) (xs : List X) → All P (reverse xs) → All P xs
all_of_reverse P [] each = All-nil P
all_of_reverse P (x ∷ xs) each =
    let parts : All P (reverse xs ++ x ∷ []) = subst (All P) (reverse-append (x ∷ []) xs) each in
    All-cons P x xs (All-head P x [] (all_back P (reverse xs) (x ∷ []) parts)) (all_of_reverse P xs (all_front P (reverse xs) (x ∷ []) parts))

-- ---- one trip more

-- ---- the legs of runs

abbrev pub legs_in : Day → (ℕ → ℕ → Bool) → List ℕ → List Leg
legs_in day goes ts = map (leg_of day) (runs_of goes ts)

-- a trip in front of others, where the flag says whether it goes on
pub one_trip_more : (day : Day) (goes : ℕ → ℕ → Bool) (flag : Bool) (t : ℕ) (ts : List ℕ) → ((b : ℕ) (rest : List ℕ) → ts ≡ b ∷ rest → goes t b ≡ flag)
    → legs_in day goes (t ∷ ts) ≡ with_leg day flag t (legs_in day goes ts)
one_trip_more day goes flag t [] same = refl
one_trip_more day goes flag t (b ∷ ts) same =
    let rest = starts goes b ts in
    ap (λ (runs : List (List ℕ)). map (leg_of day) (with_trip goes t runs)) rest.is
    ∙ on (goes t b) rest.more rest.others
    ∙ ap (λ (f : Bool). with_leg day f t (map (leg_of day) ((b ∷ rest.more) ∷ rest.others))) (same b ts refl)
    ∙ ap (λ (runs : List (List ℕ)). with_leg day flag t (map (leg_of day) runs)) (sym rest.is)
  where
    long : (n : ℕ) → suc (suc n) ≡ suc n + 1
    long n = omega arith

    on : (f : Bool) (more : List ℕ) (others : List (List ℕ)) → map (leg_of day) (if f then (t ∷ b ∷ more) ∷ others else (t ∷ []) ∷ (b ∷ more) ∷ others) ≡ with_leg day f t (map (leg_of day) ((b ∷ more) ∷ others))
    on true more others = ap (λ (n : ℕ). record (leg_of day (t ∷ b ∷ more)) { trips = n } ∷ map (leg_of day) others) (long (length more))
    on false more others = refl

-- no leg has more trips than there are
pub few_trips : (day : Day) (goes : ℕ → ℕ → Bool) (ts : List ℕ) → All (λ leg. leg.trips ≤ length ts) (legs_in day goes ts)
few_trips day goes [] = All-nil (λ (leg : Leg). leg.trips ≤ 0)
few_trips day goes (t ∷ ts) = on (runs_of goes ts) (few_trips day goes ts)
  where
    more : (legs : List Leg) → All (λ leg. leg.trips ≤ length ts) legs → All (λ leg. leg.trips ≤ suc (length ts)) legs
    more legs few k d below = (let le = few k d below in omega (arith, le))

    on : (runs : List (List ℕ)) → All (λ leg. leg.trips ≤ length ts) (map (leg_of day) runs) → All (λ leg. leg.trips ≤ suc (length ts)) (map (leg_of day) (with_trip goes t runs))
    on [] few = All-cons (λ (leg : Leg). leg.trips ≤ suc (length ts)) (leg_of day (t ∷ [])) [] (omega arith) (All-nil (λ (leg : Leg). leg.trips ≤ suc (length ts)))
    on (run ∷ runs) few = by (goes t (first_of run))
      where
        by : (b : Bool) → All (λ leg. leg.trips ≤ suc (length ts)) (map (leg_of day) (if b then (t ∷ run) ∷ runs else (t ∷ []) ∷ run ∷ runs))
        by true = All-cons (λ (leg : Leg). leg.trips ≤ suc (length ts)) (leg_of day (t ∷ run)) (map (leg_of day) runs)
            (let le = few 0 (leg_of day run) (omega arith) in omega (arith, le)) (λ k d below. (let le = few (suc k) d (omega (arith, below)) in omega (arith, le)))
        by false = All-cons (λ (leg : Leg). leg.trips ≤ suc (length ts)) (leg_of day (t ∷ [])) (map (leg_of day) (run ∷ runs)) (omega arith) (more (map (leg_of day) (run ∷ runs)) few)

-- ---- a duty from one of its trips on

pub drop_short : (n : ℕ) (ts : List ℕ) → length (drop n ts) ≤ length ts
drop_short zero ts = omega arith
drop_short (suc n) [] = omega arith
drop_short (suc n) (t ∷ ts) = omega (arith, drop_short n ts)

each_from : (R : ℕ → ℕ → Type 0) (n : ℕ) (ts : List ℕ) → EachFollows R ts → EachFollows R (drop n ts)
each_from R zero ts follows = follows
each_from R (suc n) [] follows = tt
each_from R (suc n) (a ∷ []) follows = nothing n
  where
    nothing : (n : ℕ) → EachFollows R (drop n [])
    nothing zero = tt
    nothing (suc n) = tt
each_from R (suc n) (a ∷ b ∷ ts) follows = each_from R n (b ∷ ts) follows.1

module _ (day : Day) (plan : List (List ℕ)) (is_day : IsDay day) (links : AreLinks day) (runs : Runs day plan) (u : ℕ) where
  -- a unit stays in the train from a trip to the next of its duty exactly where the trip does not give it
  stays_or_given : (a b : ℕ) → MayFollow day plan u a b → stays day plan u a b ≡ not (has u (given day plan a))
  stays_or_given a b follows = elim (cases_Bool (stays day plan u a b)) [
    | inl stay ↦
        let none = (kept_apart day plan is_day links runs a b u (leb-true 1 (count_of u (kept day plan a b)) stay)).0 in
        stay ∙ sym (ap not (not_in u (given day plan a) none))
    | inr goes ↦ goes ∙ sym (ap not (gives follows goes))
  ]
    where
      not_in : (u : ℕ) (us : List ℕ) → count_of u us ≡ 0 → has u us ≡ false
      not_in u us none = elim (cases_Bool (has u us)) [
        | inl is ↦ absurd (let some = leb-true 1 (count_of u us) is in omega (arith, some, none))
        | inr isnt ↦ isnt
      ]

      gives : MayFollow day plan u a b → stays day plan u a b ≡ false → has u (given day plan a) ≡ true
      gives (inl stay) goes = absurd (false≢true (sym goes ∙ stay))
      gives (inr yard) goes = yard.given

  -- the legs from one trip of the duty on, from those behind it
  pub legs_from_trip : u < unit_count day → (n t : ℕ) → n < length (duty day plan u) → t ≡ get_or (duty day plan u) n t
      → legs_in day (stays day plan u) (drop n (duty day plan u)) ≡ with_leg day (not (has u (given day plan t))) t (legs_in day (stays day plan u) (drop (suc n) (duty day plan u)))
  legs_from_trip known n t below is =
      let ts = duty day plan u in
      let parts : drop n ts ≡ t ∷ drop (suc n) ts = drop-cons ts n t below ∙ ap (λ (x : ℕ). x ∷ drop (suc n) ts) (sym is) in
      let follows : EachFollows (MayFollow day plan u) (t ∷ drop (suc n) ts) = subst (EachFollows (MayFollow day plan u)) parts (each_from (MayFollow day plan u) n ts (runs.follows u known)) in
      ap (legs_in day (stays day plan u)) parts
      ∙ one_trip_more day (stays day plan u) (not (has u (given day plan t))) t (drop (suc n) ts)
      (λ b rest are. stays_or_given t b (subst (λ (xs : List ℕ). EachFollows (MayFollow day plan u) (t ∷ xs)) are follows).0)

-- ---- the stops of a duty

-- what a function gives of the numbers below a bound
map_below : {X : Type 0} (f : ℕ → X) (n : ℕ) → map f (below n) ≡ listed f n
map_below f zero = refl
map_below f (suc n) = map-append f (below n) (n ∷ []) ∙ ap (λ xs. xs ++ f n ∷ []) (map_below f n)

-- the trip of a stop
pub stop_at : (day : Day) (plan : List (List ℕ)) (u : ℕ) (stops : List Stop) (n : ℕ) (stop : Stop) → stops ≡ stops_of day plan u → n < length stops → stop ≡ get_or stops n stop
    → (n < length (duty day plan u)) × (stop.trip ≡ get_or (duty day plan u) n stop.trip)
stop_at day plan u stops n stop are below is =
    on (duty day plan u) n (subst (λ (ss : List Stop). n < length ss) are below) (is ∙ ap (λ (ss : List Stop). get_or ss n stop) are)
  where
    on : (ts : List ℕ) (n : ℕ) → n < length (map (stop_on plan u) ts) → stop ≡ get_or (map (stop_on plan u) ts) n stop → (n < length ts) × (stop.trip ≡ get_or ts n stop.trip)
    on [] n below is = absurd (omega (arith, below))
    on (t ∷ ts) zero below is = (omega arith, ap (λ (s : Stop). s.trip) is)
    on (t ∷ ts) (suc n) below is = (let rest = on ts n (omega (arith, below)) is in (omega (arith, rest.0), rest.1))

pub stops_are : (day : Day) (plan : List (List ℕ)) (u : ℕ) (duties : List (List Stop)) (stops : List Stop) → u < unit_count day → duties ≡ duties_of day plan
    → slice_get duties u ≡ Some stops → stops ≡ stops_of day plan u
unfolding duties_of
stops_are day plan u duties stops known are at =
    let all : duties ≡ listed (stops_of day plan) (unit_count day) = are ∙ map_below (stops_of day plan) (unit_count day) in
    let same : Some stops ≡ Some (stops_of day plan u) = sym at ∙ ap (λ lists. slice_get lists u) all ∙ get_listed (stops_of day plan) (unit_count day) u known in
    ap (λ o. unwrap_or o []) same
