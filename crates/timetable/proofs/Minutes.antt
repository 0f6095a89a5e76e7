-- The departure minutes of a station rise, and are those of its trips.
use Rattle.std.proofs.Common.{◌≡◌, ◌⊎◌, inl, inr, ℕ, zero, suc, ◌<◌, ◌≤◌, false, List, [], ◌∷◌, ◌+◌, length, get_or}
use Rattle.std.proofs.Common.{refl, sym, ap, subst, ◌∙◌, arith, Result, Ok, Err}
use Rattle.std.specs.Prelude.{⊤, if◌then◌else◌, ◌==◌, nat_lt}
use Rattle.std.specs.List.{All, AllPairs, Contains, insert}
use Rattle.std.specs.List.Sorted.{IsBinarySearchResult}
use Rattle.std.specs.Ordering.{nat_cmp}
use Rattle.std.proofs.lemmas.List.Sorted.{searched}
use Rattle.std.proofs.lemmas.Bool.{cases_Bool, cases_lt, cond_both, cond-true, cond-false, both_ways, ltb-true}
use Rattle.std.proofs.lemmas.Bool.{ltb-false, lt-ltb, le-ltb, eqb-true, eq-eqb, ne_eqb}
use Rattle.std.proofs.lemmas.List.Elements.{Contains-get_or}
use Rattle.rules.specs.declared.records.Trip.{Trip}
use Rattle.rail_base.specs.declared.limits.TheConstants.{MAX_MINUTES}
use Rattle.timetable.specs.Accepted.{IsDay}
use Rattle.timetable.specs.Day.{Day, leaves, arrives, from_of}
use Rattle.timetable.specs.Lists.{of_entry, sum_below}
use Rattle.timetable.specs.Minutes.{LeavesAt, AreMinutes, inserted, minutes_in, minutes_of}
use Rattle.timetable.proofs.Ones.{one}
use Rattle.timetable.proofs.Sums.{sum_add, sum_le, sum_zero, sum_one}

-- ---- numbers in a list

-- the number is in the list
abbrev pub Has : ℕ → List ℕ → Type 0
Has x [] = ⊥
Has x (y ∷ ys) = (y ≡ x) ⊎ Has x ys

-- each is below the later ones
abbrev pub Rise : List ℕ → Type 0
Rise [] = ⊤
Rise (x ∷ xs) = ((y : ℕ) → Has y xs → x < y) × Rise xs

has_from : (x : ℕ) (ys : List ℕ) → Contains ys x → Has x ys
has_from x [] (k, below, at) = absurd (omega arith)
has_from x (y ∷ ys) (zero, below, at) = inl at
has_from x (y ∷ ys) (suc k, below, at) = inr (has_from x ys (k, omega arith, at))

contains_from : (x : ℕ) (ys : List ℕ) → Has x ys → Contains ys x
contains_from x [] none = absurd none
contains_from x (y ∷ ys) (inl is) = (0, omega arith, is)
contains_from x (y ∷ ys) (inr later) = let (k, below, at) = contains_from x ys later in (suc k, omega arith, at)

has_at : (ys : List ℕ) (k d : ℕ) → k < length ys → Has (get_or ys k d) ys
has_at [] k d below = absurd (omega arith)
has_at (y ∷ ys) zero d below = inl refl
has_at (y ∷ ys) (suc k) d below = inr (has_at ys k d (omega arith))

pairs_rise : (xs : List ℕ) → Rise xs → AllPairs (λ a b. a < b) xs
pairs_rise [] r i j d order below = absurd (omega arith)
pairs_rise (x ∷ xs) r i zero d order below = absurd (omega arith)
pairs_rise (x ∷ xs) r zero (suc j) d order below = r.0 (get_or xs j d) (has_at xs j d (omega arith))
pairs_rise (x ∷ xs) r (suc i) (suc j) d order below = pairs_rise xs r.1 i j d (omega arith) (omega arith)

rise_from : (xs : List ℕ) → AllPairs (λ a b. a < b) xs → Rise xs
rise_from [] pairs = tt
rise_from (x ∷ xs) pairs = (
  (λ y has. let (k, below, at) = contains_from y xs has in subst (λ (z : ℕ). x < z) at (pairs 0 (suc k) _ (omega arith) (omega arith))),
  rise_from xs (λ i j d order below. pairs (suc i) (suc j) d (omega arith) (omega arith)),
)

-- ---- a minute more

-- what inserting a minute makes of a list
pub record Inserts (m : ℕ) (before after : List ℕ) : Type 0 where
  pub here : Has m after
  pub kept : (x : ℕ) → Has x before → Has x after
  pub only : (x : ℕ) → Has x after → Has x before ⊎ (m ≡ x)
  pub rise : Rise before → Rise after
  pub few : length after ≤ suc (length before)

later_kept : (m k : ℕ) (ks after : List ℕ) → Inserts m ks after → (x : ℕ) → Has x (k ∷ ks) → Has x (k ∷ after)
later_kept m k ks after so x (inl is) = inl is
later_kept m k ks after so x (inr later) = inr (so.kept x later)

later_only : (m k : ℕ) (ks after : List ℕ) → Inserts m ks after → (x : ℕ) → Has x (k ∷ after) → Has x (k ∷ ks) ⊎ (m ≡ x)
later_only m k ks after so x (inl is) = inl (inl is)
later_only m k ks after so x (inr later) = elim (so.only x later) [
  | inl had ↦ inl (inr had)
  | inr new ↦ inr new
]

still_above : (m k : ℕ) (ks after : List ℕ) → Inserts m ks after → k < m → ((y : ℕ) → Has y ks → k < y) → (y : ℕ) → Has y after → k < y
still_above m k ks after so lower above y has = elim (so.only y has) [
  | inl had ↦ above y had
  | inr new ↦ subst (λ (z : ℕ). k < z) new lower
]

inserts_later : (m k : ℕ) (ks after : List ℕ) → Inserts m ks after → k < m → Inserts m (k ∷ ks) (k ∷ after)
inserts_later m k ks after so lower = record {
  here = inr so.here;
  kept = later_kept m k ks after so;
  only = later_only m k ks after so;
  rise = λ r. (still_above m k ks after so lower r.0, so.rise r.1);
  few = (let few : length after ≤ suc (length ks) = so.few in omega arith);
}

first_only : (m : ℕ) (ks : List ℕ) (x : ℕ) → Has x (m ∷ ks) → Has x ks ⊎ (m ≡ x)
first_only m ks x (inl is) = inr is
first_only m ks x (inr later) = inl later

above_first : (m k : ℕ) (ks : List ℕ) → m < k → ((y : ℕ) → Has y ks → k < y) → (y : ℕ) → Has y (k ∷ ks) → m < y
above_first m k ks lower above y (inl is) = subst (λ (z : ℕ). m < z) is lower
above_first m k ks lower above y (inr later) = let higher : k < y = above y later in omega arith

inserts_first : (m k : ℕ) (ks : List ℕ) → m < k → Inserts m (k ∷ ks) (m ∷ k ∷ ks)
inserts_first m k ks lower = record {
  here = inl refl;
  kept = λ x has. inr has;
  only = first_only m (k ∷ ks);
  rise = λ r. (above_first m k ks lower r.0, r);
  few = omega arith;
}

inserts_none : (m k : ℕ) (ks : List ℕ) → k ≡ m → Inserts m (k ∷ ks) (k ∷ ks)
inserts_none m k ks is = record {
  here = inl is;
  kept = λ x has. has;
  only = λ x has. inl has;
  rise = λ r. r;
  few = omega arith;
}

pub inserts : (m : ℕ) (ks : List ℕ) → Inserts m ks (inserted m ks)
inserts m [] = record {
  here = inl refl;
  kept = λ x none. absurd none;
  only = first_only m [];
  rise = λ r. ((λ y none. absurd none), tt);
  few = omega arith;
}
inserts m (k ∷ ks) =
    cond_both (nat_lt k m) (k ∷ inserted m ks) (if k == m then k ∷ ks else m ∷ k ∷ ks) (λ after. Inserts m (k ∷ ks) after)
    (λ lower. inserts_later m k ks (inserted m ks) (inserts m ks) (ltb-true k m lower))
    (λ not_lower. cond_both (k == m) (k ∷ ks) (m ∷ k ∷ ks) (λ after. Inserts m (k ∷ ks) after)
    (λ same. inserts_none m k ks (eqb-true k m same))
    (λ differ. inserts_first m k ks (higher m k (ltb-false k m not_lower) differ)))
  where
    higher : (m k : ℕ) → m ≤ k → (k == m) ≡ false → m < k
    higher m k least differ = let other : (k ≡ m → ⊥) = λ is. both_ways (k == m) differ (eq-eqb k m is) in omega arith

pub inserted_rise : (m : ℕ) (ks after : List ℕ) → after ≡ inserted m ks → AllPairs (λ a b. a < b) ks → AllPairs (λ a b. a < b) after
inserted_rise m ks after is pairs = subst (AllPairs (λ a b. a < b)) (sym is) (pairs_rise (inserted m ks) ((inserts m ks).rise (rise_from ks pairs)))

-- a minute that is there stays where it is
pub there : (ks : List ℕ) (i m : ℕ) → i < length ks → get_or ks i 0 ≡ m → ((k : ℕ) → k < i → get_or ks k 0 < m) → inserted m ks ≡ ks
there [] i m below at lower = absurd (omega arith)
there (x ∷ xs) zero m below at lower =
    cond-false (nat_lt x m) (x ∷ inserted m xs) (if x == m then x ∷ xs else m ∷ x ∷ xs) (le-ltb x m (omega arith))
    ∙ cond-true (x == m) (x ∷ xs) (m ∷ x ∷ xs) (eq-eqb x m at)
there (x ∷ xs) (suc i) m below at lower =
    cond-true (nat_lt x m) (x ∷ inserted m xs) (if x == m then x ∷ xs else m ∷ x ∷ xs) (lt-ltb x m (lower 0 (omega arith)))
    ∙ ap (λ (ks : List ℕ). x ∷ ks) (there xs i m (omega arith) at (λ k before. lower (suc k) (omega arith)))

-- a minute that isn't there goes to its place
pub placed : (ks : List ℕ) (i m : ℕ) → i ≤ length ks → ((k : ℕ) → k < i → get_or ks k 0 < m) → ((k : ℕ) → i ≤ k → k < length ks → m < get_or ks k 0) → inserted m ks ≡ insert ks i m
placed [] i m within lower higher = let none : i ≡ 0 = omega arith in rw none refl
placed (x ∷ xs) zero m within lower higher =
    let above : m < x = higher 0 (omega arith) (omega arith) in
    cond-false (nat_lt x m) (x ∷ inserted m xs) (if x == m then x ∷ xs else m ∷ x ∷ xs) (le-ltb x m (omega arith))
    ∙ cond-false (x == m) (x ∷ xs) (m ∷ x ∷ xs) (ne_eqb x m (λ is. absurd (omega arith)))
placed (x ∷ xs) (suc i) m within lower higher =
    cond-true (nat_lt x m) (x ∷ inserted m xs) (if x == m then x ∷ xs else m ∷ x ∷ xs) (lt-ltb x m (lower 0 (omega arith)))
    ∙ ap (λ (ks : List ℕ). x ∷ ks) (placed xs i m (omega arith) (λ k before. lower (suc k) (omega arith)) (λ k after below. higher (suc k) (omega arith) (omega arith)))

-- ---- the minutes of trips

-- one of the trips leaves the station at the minute
abbrev Leave : List Trip → ℕ → ℕ → Type 0
Leave [] s m = ⊥
Leave (trip ∷ trips) s m = ((trip.from ≡ s) × (trip.departure ≡ m)) ⊎ Leave trips s m

record AreOf (trips : List Trip) (s : ℕ) (minutes : List ℕ) : Type 0 where
  rise : Rise minutes
  left : (m : ℕ) → Has m minutes → Leave trips s m
  all : (m : ℕ) → Leave trips s m → Has m minutes
  few : length minutes ≤ length trips

left_with : (trip : Trip) (trips : List Trip) (s : ℕ) (minutes after : List ℕ) → trip.from ≡ s → Inserts trip.departure minutes after → AreOf trips s minutes → (m : ℕ) → Has m after → Leave (trip ∷ trips) s m
left_with trip trips s minutes after from so are m has = elim (so.only m has) [
  | inl had ↦ inr (are.left m had)
  | inr new ↦ inl (from, new)
]

all_with : (trip : Trip) (trips : List Trip) (s : ℕ) (minutes after : List ℕ) → Inserts trip.departure minutes after → AreOf trips s minutes → (m : ℕ) → Leave (trip ∷ trips) s m → Has m after
all_with trip trips s minutes after so are m (inl this) = subst (λ (k : ℕ). Has k after) this.1 so.here
all_with trip trips s minutes after so are m (inr others) = so.kept m (are.all m others)

all_without : (trip : Trip) (trips : List Trip) (s : ℕ) (minutes : List ℕ) → (trip.from == s) ≡ false → AreOf trips s minutes → (m : ℕ) → Leave (trip ∷ trips) s m → Has m minutes
all_without trip trips s minutes other are m (inl this) = absurd (both_ways (trip.from == s) other (eq-eqb trip.from s this.0))
all_without trip trips s minutes other are m (inr others) = are.all m others

are_of : (trips : List Trip) (s : ℕ) → AreOf trips s (minutes_in trips s)
are_of [] s = record { rise = tt; left = λ m none. none; all = λ m none. none; few = omega arith }
are_of (trip ∷ trips) s =
    let are : AreOf trips s (minutes_in trips s) = are_of trips s in
    let few : length (minutes_in trips s) ≤ length trips = are.few in
    let so : Inserts trip.departure (minutes_in trips s) (inserted trip.departure (minutes_in trips s)) = inserts trip.departure (minutes_in trips s) in
    let more : length (inserted trip.departure (minutes_in trips s)) ≤ suc (length (minutes_in trips s)) = so.few in
    cond_both (trip.from == s) (inserted trip.departure (minutes_in trips s)) (minutes_in trips s) (λ minutes. AreOf (trip ∷ trips) s minutes)
    (λ here. record {
      rise = so.rise are.rise;
      left = left_with trip trips s (minutes_in trips s) (inserted trip.departure (minutes_in trips s)) (eqb-true trip.from s here) so are;
      all = all_with trip trips s (minutes_in trips s) (inserted trip.departure (minutes_in trips s)) so are;
      few = omega arith;
    })
    (λ other. record {
      rise = are.rise;
      left = λ m has. inr (are.left m has);
      all = all_without trip trips s (minutes_in trips s) other are;
      few = omega arith;
    })

pub minutes_rise : (trips : List Trip) (s : ℕ) → AllPairs (λ a b. a < b) (minutes_in trips s)
minutes_rise trips s = pairs_rise (minutes_in trips s) (are_of trips s).rise

-- a trip more makes one minute more at one station at most
one_minute_more : (trip : Trip) (trips : List Trip) (s : ℕ) → length (minutes_in (trip ∷ trips) s) ≤ length (minutes_in trips s) + one trip.from s
one_minute_more trip trips s = elim (cases_Bool (trip.from == s)) [
  | inl here ↦
      let most = (inserts trip.departure (minutes_in trips s)).few in
      omega (arith, ap (λ (minutes : List ℕ). length minutes) (cond-true (trip.from == s) (inserted trip.departure (minutes_in trips s)) (minutes_in trips s) here), cond-true {A = ℕ} (trip.from == s) 1 0 here)
  | inr other ↦
      omega (arith, ap (λ (minutes : List ℕ). length minutes) (cond-false (trip.from == s) (inserted trip.departure (minutes_in trips s)) (minutes_in trips s) other), cond-false {A = ℕ} (trip.from == s) 1 0 other)
]

-- the stations have together no more minutes than there are trips
few_minutes_below : (trips : List Trip) (n : ℕ) → sum_below (λ s. length (minutes_in trips s)) n ≤ length trips
few_minutes_below [] n = omega (arith, sum_zero (λ s. length (minutes_in [] s)) n (λ s below. refl))
few_minutes_below (trip ∷ trips) n =
    omega (
      arith,
      sum_le (λ s. length (minutes_in (trip ∷ trips) s)) (λ s. length (minutes_in trips s) + one trip.from s) n (λ s below. one_minute_more trip trips s),
      sum_add (λ s. length (minutes_in trips s)) (one trip.from) n,
      sum_one trip.from n,
      few_minutes_below trips n,
    )

pub few_minutes : (trips : List Trip) (s : ℕ) → length (minutes_in trips s) ≤ length trips
few_minutes trips s = (are_of trips s).few

-- ---- the minutes of a day

-- the trips of a day that leave, and the same by their numbers
known_leave : (trips : List Trip) (s m : ℕ) → Leave trips s m
    → (t : ℕ) × (t < length trips) × (of_entry (λ trip. trip.from) trips t 0 ≡ s) × (of_entry (λ trip. trip.departure) trips t 0 ≡ m)
known_leave [] s m none = absurd none
known_leave (trip ∷ trips) s m (inl this) = (0, omega arith, this.0, this.1)
known_leave (trip ∷ trips) s m (inr others) = let (t, known, from, minute) = known_leave trips s m others in (suc t, omega arith, from, minute)

leave_known : (trips : List Trip) (s m t : ℕ) → t < length trips → of_entry (λ trip. trip.from) trips t 0 ≡ s → of_entry (λ trip. trip.departure) trips t 0 ≡ m → Leave trips s m
leave_known [] s m t known from minute = absurd (omega arith)
leave_known (trip ∷ trips) s m zero known from minute = inl (from, minute)
leave_known (trip ∷ trips) s m (suc t) known from minute = inr (leave_known trips s m t (omega arith) from minute)

pub are_minutes : (day : Day) (s : ℕ) → AreMinutes day s (minutes_of day s)
unfolding minutes_of leaves from_of
are_minutes day s = record {
  rise = minutes_rise day.trips s;
  left = λ m has.
      (let (t, known, from, minute) = known_leave day.trips s m ((are_of day.trips s).left m (has_from m (minutes_in day.trips s) has)) in
      record { trip = t; known = known; station = from; minute = minute });
  all = λ m at. contains_from m (minutes_in day.trips s) ((are_of day.trips s).all m (leave_known day.trips s m at.trip at.known at.station at.minute));
}

-- each is within the two days
pub minutes_within : (day : Day) (s : ℕ) → IsDay day → All (λ m. m < MAX_MINUTES) (minutes_of day s)
minutes_within day s sound = λ k d below.
    let minutes : List ℕ = minutes_of day s in
    let at : LeavesAt day s (get_or minutes k d) = (are_minutes day s).left (get_or minutes k d) (Contains-get_or minutes k d below) in
    let time : leaves day at.trip < arrives day at.trip = sound.timetable.time at.trip at.known in
    let late : arrives day at.trip < MAX_MINUTES = sound.timetable.late at.trip at.known in
    let is : leaves day at.trip ≡ get_or minutes k d = at.minute in
    omega arith

-- ---- where a search finds a minute

not_falling : (ks : List ℕ) → AllPairs (λ a b. a < b) ks → (i j : ℕ) → i ≤ j → j < length ks → get_or ks i 0 ≤ get_or ks j 0
not_falling ks rise i j order below = elim (cases_lt i j) [
  | inl before ↦ (let lower : get_or ks i 0 < get_or ks j 0 = rise i j 0 before below in omega arith)
  | inr last ↦ (let same : i ≡ j = omega arith in subst (λ (k : ℕ). get_or ks i 0 ≤ get_or ks k 0) same (omega arith))
]

-- a minute that was found
pub found : (ks read : List ℕ) (m i : ℕ) (r : Result ℕ ℕ) → read ≡ ks → r ≡ Ok i → AllPairs (λ a b. a < b) ks → IsBinarySearchResult (λ y. nat_cmp y m) read r → ks ≡ inserted m ks
found ks read m i r same is rise says =
    let (below, at) = searched ks m (Ok i) (subst (λ (r : Result ℕ ℕ). IsBinarySearchResult (λ y. nat_cmp y m) ks r) is (subst (λ (ks : List ℕ). IsBinarySearchResult (λ y. nat_cmp y m) ks r) same says)) (not_falling ks rise) in
    sym (there ks i m below at (λ k before. subst (λ (x : ℕ). get_or ks k 0 < x) at (rise k i 0 before below)))

-- the place of a minute that wasn't
pub place_found : (ks read : List ℕ) (m i : ℕ) (r : Result ℕ ℕ) → read ≡ ks → r ≡ Err i → AllPairs (λ a b. a < b) ks → IsBinarySearchResult (λ y. nat_cmp y m) read r → insert ks i m ≡ inserted m ks
place_found ks read m i r same is rise says =
    let (within, lower, higher) = searched ks m (Err i) (subst (λ (r : Result ℕ ℕ). IsBinarySearchResult (λ y. nat_cmp y m) ks r) is (subst (λ (ks : List ℕ). IsBinarySearchResult (λ y. nat_cmp y m) ks r) same says)) (not_falling ks rise) in
    sym (placed ks i m within lower higher)

pub few_minutes_of : (day : Day) (s : ℕ) → length (minutes_of day s) ≤ length day.trips
unfolding minutes_of
few_minutes_of day s = few_minutes day.trips s

pub few_minutes_before : (day : Day) (n : ℕ) → sum_below (λ s. length (minutes_of day s)) n ≤ length day.trips
unfolding minutes_of
few_minutes_before day n = few_minutes_below day.trips n
