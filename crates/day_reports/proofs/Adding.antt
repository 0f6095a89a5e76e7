-- The columns of a yard add up, row by row: between two departure minutes of a station no trip leaves it.
use Rattle.std.proofs.Common.{◌≡◌, ℕ, zero, suc, ◌+◌, ◌<◌, ◌≤◌, List, [], ◌∷◌, length, Option, Some, None, pos}
use Rattle.std.proofs.Common.{ℤ, ◌+ℤ◌, ◌-ℤ◌, ◌⊎◌, inl, inr, refl, sym, subst, ap, ◌∙◌, arith}
use Rattle.std.specs.Prelude.{⊤, if◌then◌else◌, ◌==◌, ◌&&◌, nat_le, nat_lt, true}
use Rattle.std.specs.List.{AllPairs, Contains}
use Rattle.std.proofs.lemmas.Bool.Decides.{nat_tests}
use Rattle.std.proofs.lemmas.Int.{ints}
use Rattle.timetable.specs.Day.{leaves, from_of, to_of, ready_at}
use Rattle.timetable.specs.Lists.{sum_below}
use Rattle.timetable.specs.Minutes.{AreMinutes, minutes_of}
use Rattle.timetable.specs.Starts.{start_of}
use Rattle.timetable.proofs.Minutes.{are_minutes}
use Rattle.timetable.proofs.Sums.{sum_same, sum_add, sum_zero}
use Rattle.inventory.specs.Counts.{takes_of, gives_of, taken_until, ready_until, all_taken, all_given, count_at}
use Rattle.inventory.specs.Counts.{end_count_of}
use Rattle.day_reports.specs.YardRows.{YardOf, YardRow, takes_at, taken_at, gives_between, ready_between}
use Rattle.day_reports.specs.YardRows.{start_row, minute_row, end_row, rows_after}
use Rattle.day_reports.specs.Laws.{Totals, with_row, IsOfMinute, IsOfEnd, AddUpAfter, YardsAddUp}

-- ---- of one trip

-- what a trip takes by the first departure minute it takes at it
first_takes : (from s leave minute n : ℕ) → (from ≡ s → minute ≤ leave)
    → (if (from == s) && (leave == minute) then n else 0) ≡ (if (from == s) && nat_le leave minute then n else 0)
first_takes from s leave minute n not_before = grind (arith, nat_tests)

-- what it takes by a later one it takes by the one before and at this one
more_takes : (from s leave before minute n : ℕ) → before < minute → (from ≡ s → (leave ≤ before) ⊎ (minute ≤ leave))
    → (if (from == s) && nat_le leave before then n else 0) + (if (from == s) && (leave == minute) then n else 0)
    ≡ (if (from == s) && nat_le leave minute then n else 0)
more_takes from s leave before minute n rise apart = grind (arith, nat_tests)

no_takes : (from s n : ℕ) → (from ≡ s → ⊥) → 0 ≡ (if from == s then n else 0)
no_takes from s n elsewhere = grind (arith, nat_tests)

all_takes : (from s leave before n : ℕ) → (from ≡ s → leave ≤ before) → (if (from == s) && nat_le leave before then n else 0) ≡ (if from == s then n else 0)
all_takes from s leave before n past = grind (arith, nat_tests)

-- what is ready by a minute is ready by an earlier one or between the two
more_gives : (to s ready before minute n : ℕ) → before < minute
    → (if (to == s) && nat_le ready before then n else 0) + (if (to == s) && (nat_lt before ready && nat_le ready minute) then n else 0)
    ≡ (if (to == s) && nat_le ready minute then n else 0)
more_gives to s ready before minute n rise = grind (arith, nat_tests)

all_gives : (to s ready before n : ℕ)
    → (if (to == s) && nat_le ready before then n else 0) + (if (to == s) && (nat_lt before ready && true) then n else 0)
    ≡ (if to == s then n else 0)
all_gives to s ready before n = grind (arith, nat_tests)

only_gives : (to s n : ℕ) → (if (to == s) && (true && true) then n else 0) ≡ (if to == s then n else 0)
only_gives to s n = grind (arith, nat_tests)

-- ---- of all trips

two_sums : (f g h : ℕ → ℕ) (n : ℕ) → ((k : ℕ) → k < n → f k + g k ≡ h k) → sum_below f n + sum_below g n ≡ sum_below h n
two_sums f g h n each = sym (sum_add f g n) ∙ sum_same (λ k. f k + g k) h n each

from_none : (n m : ℕ) → n ≡ m → 0 + n ≡ m
from_none n m e = omega (arith, e)

no_more : (n : ℕ) → n + 0 ≡ n
no_more n = omega arith

-- ---- counts

count_later : (start ready taken now more ready' taken' : ℕ) → taken + now ≡ taken' → ready + more ≡ ready'
    → (pos (start + ready') -ℤ pos taken') +ℤ pos now ≡ (pos (start + ready) -ℤ pos taken) +ℤ pos more
count_later start ready taken now more ready' taken' t r = omega (arith, ints, t, r)

count_first : (start now more ready taken : ℕ) → 0 + now ≡ taken → 0 + more ≡ ready → (pos (start + ready) -ℤ pos taken) +ℤ pos now ≡ pos start +ℤ pos more
count_first start now more ready taken t r = omega (arith, ints, t, r)

count_last : (start ready taken more ready' taken' : ℕ) → taken ≡ taken' → ready + more ≡ ready' → pos (start + ready') -ℤ pos taken' ≡ (pos (start + ready) -ℤ pos taken) +ℤ pos more
count_last start ready taken more ready' taken' t r = omega (arith, ints, t, r)

count_only : (start more ready taken : ℕ) → 0 ≡ taken → 0 + more ≡ ready → pos (start + ready) -ℤ pos taken ≡ pos start +ℤ pos more
count_only start more ready taken t r = omega (arith, ints, t, r)

-- ---- minutes of a list

in_none : (x : ℕ) → Contains [] x → ⊥
in_none x (k, below, at) = absurd (omega arith)

first_or_later : (y : ℕ) (ys : List ℕ) (x : ℕ) → Contains (y ∷ ys) x → (y ≡ x) ⊎ Contains ys x
first_or_later y ys x (zero, below, at) = inl at
first_or_later y ys x (suc k, below, at) = inr (k, omega arith, at)

is_first : (y : ℕ) (ys : List ℕ) → Contains (y ∷ ys) y
is_first y ys = (zero, omega arith, refl)

first_is_lower : (y : ℕ) (ys : List ℕ) → AllPairs (λ a b. a < b) (y ∷ ys) → (x : ℕ) → Contains ys x → y < x
first_is_lower y ys rise x (k, below, at) = subst (λ (z : ℕ). y < z) at (rise 0 (suc k) x (omega arith) (omega arith))

-- ---- the rows

-- the row of a minute, or of the start, is before a minute
abbrev IsBefore : Option ℕ → ℕ → Type 0
IsBefore None minute = ⊤
IsBefore (Some before) minute = before < minute

-- a minute is no later than that of the row
abbrev IsPast : Option ℕ → ℕ → Type 0
IsPast None minute = ⊥
IsPast (Some before) minute = minute ≤ before

past_later : (before : Option ℕ) (minute leave : ℕ) → IsBefore before minute → IsPast before leave → leave ≤ minute
past_later None minute leave rise past = absurd past
past_later (Some before) minute leave rise past = omega arith

-- units that were taken by the minute of a row: none by the start
abbrev taken_so_far : YardOf → Option ℕ → ℕ
taken_so_far yard None = 0
taken_so_far yard (Some minute) = taken_until yard.day yard.lists yard.station yard.unit_type minute

-- units that were given and are ready by the minute of a row: none by the start
abbrev ready_so_far : YardOf → Option ℕ → ℕ
ready_so_far yard None = 0
ready_so_far yard (Some minute) = ready_until yard.day yard.lists yard.station yard.unit_type minute

-- the count of the row of a departure minute, or of the row of the start
abbrev count_of_row : YardOf → Option ℕ → ℤ
count_of_row yard None = pos (start_of yard.day yard.station yard.unit_type)
count_of_row yard (Some minute) = count_at yard.day yard.lists yard.station yard.unit_type minute

module _ (yard : YardOf) where
  abbrev trips : ℕ
  trips = length yard.day.trips

  -- each trip from the station leaves by the row, or not before the minute
  abbrev AreApart : Option ℕ → ℕ → Type 0
  AreApart before minute = (t : ℕ) → t < trips → from_of yard.day t ≡ yard.station → IsPast before (leaves yard.day t) ⊎ (minute ≤ leaves yard.day t)

  -- each leaves by the row
  abbrev ArePast : Option ℕ → Type 0
  ArePast before = (t : ℕ) → t < trips → from_of yard.day t ≡ yard.station → IsPast before (leaves yard.day t)

  takes : (before : Option ℕ) (minute : ℕ) → IsBefore before minute → AreApart before minute → taken_so_far yard before + taken_at yard minute ≡ taken_so_far yard (Some minute)
  unfolding taken_at taken_until
  takes None minute rise apart =
      from_none _ _ (sum_same (takes_at yard minute) (λ t. if (from_of yard.day t == yard.station) && nat_le (leaves yard.day t) minute then takes_of yard.day yard.lists yard.unit_type t else 0) trips
      (λ t lt. first_takes (from_of yard.day t) yard.station (leaves yard.day t) minute (takes_of yard.day yard.lists yard.unit_type t)
      (λ is. elim (apart t lt is) [
        | inl past ↦ absurd past
        | inr later ↦ later
      ])))
  takes (Some before) minute rise apart =
      two_sums (λ t. if (from_of yard.day t == yard.station) && nat_le (leaves yard.day t) before then takes_of yard.day yard.lists yard.unit_type t else 0) (takes_at yard minute)
      (λ t. if (from_of yard.day t == yard.station) && nat_le (leaves yard.day t) minute then takes_of yard.day yard.lists yard.unit_type t else 0) trips
      (λ t lt. more_takes (from_of yard.day t) yard.station (leaves yard.day t) before minute (takes_of yard.day yard.lists yard.unit_type t) rise (apart t lt))

  takes_end : (before : Option ℕ) → ArePast before → taken_so_far yard before ≡ all_taken yard.day yard.lists yard.station yard.unit_type
  unfolding all_taken taken_until
  takes_end None past =
      sym (sum_zero (λ t. if from_of yard.day t == yard.station then takes_of yard.day yard.lists yard.unit_type t else 0) trips
      (λ t lt. sym (no_takes (from_of yard.day t) yard.station (takes_of yard.day yard.lists yard.unit_type t) (past t lt))))
  takes_end (Some before) past =
      sum_same (λ t. if (from_of yard.day t == yard.station) && nat_le (leaves yard.day t) before then takes_of yard.day yard.lists yard.unit_type t else 0)
      (λ t. if from_of yard.day t == yard.station then takes_of yard.day yard.lists yard.unit_type t else 0) trips
      (λ t lt. all_takes (from_of yard.day t) yard.station (leaves yard.day t) before (takes_of yard.day yard.lists yard.unit_type t) (past t lt))

  gives : (before : Option ℕ) (minute : ℕ) → IsBefore before minute → ready_so_far yard before + ready_between yard before (Some minute) ≡ ready_so_far yard (Some minute)
  unfolding ready_between ready_until
  gives None minute rise = from_none _ _ refl
  gives (Some before) minute rise =
      two_sums (λ t. if (to_of yard.day t == yard.station) && nat_le (ready_at yard.day t) before then gives_of yard.day yard.lists yard.unit_type t else 0)
      (gives_between yard (Some before) (Some minute))
      (λ t. if (to_of yard.day t == yard.station) && nat_le (ready_at yard.day t) minute then gives_of yard.day yard.lists yard.unit_type t else 0) trips
      (λ t lt. more_gives (to_of yard.day t) yard.station (ready_at yard.day t) before minute (gives_of yard.day yard.lists yard.unit_type t) rise)

  gives_end : (before : Option ℕ) → ready_so_far yard before + ready_between yard before None ≡ all_given yard.day yard.lists yard.station yard.unit_type
  unfolding ready_between ready_until all_given
  gives_end None =
      from_none _ _ (sum_same (gives_between yard None None) (λ t. if to_of yard.day t == yard.station then gives_of yard.day yard.lists yard.unit_type t else 0) trips
      (λ t lt. only_gives (to_of yard.day t) yard.station (gives_of yard.day yard.lists yard.unit_type t)))
  gives_end (Some before) =
      two_sums (λ t. if (to_of yard.day t == yard.station) && nat_le (ready_at yard.day t) before then gives_of yard.day yard.lists yard.unit_type t else 0)
      (gives_between yard (Some before) None) (λ t. if to_of yard.day t == yard.station then gives_of yard.day yard.lists yard.unit_type t else 0) trips
      (λ t lt. all_gives (to_of yard.day t) yard.station (ready_at yard.day t) before (gives_of yard.day yard.lists yard.unit_type t))

  counts : (before : Option ℕ) (minute : ℕ) → taken_so_far yard before + taken_at yard minute ≡ taken_so_far yard (Some minute)
      → ready_so_far yard before + ready_between yard before (Some minute) ≡ ready_so_far yard (Some minute)
      → count_of_row yard (Some minute) +ℤ pos (taken_at yard minute) ≡ count_of_row yard before +ℤ pos (ready_between yard before (Some minute))
  counts None minute taken ready =
      count_first (start_of yard.day yard.station yard.unit_type) (taken_at yard minute) (ready_between yard None (Some minute)) (ready_so_far yard (Some minute)) (taken_so_far yard (Some minute)) taken ready
  counts (Some before) minute taken ready =
      count_later (start_of yard.day yard.station yard.unit_type) (ready_so_far yard (Some before)) (taken_so_far yard (Some before)) (taken_at yard minute) (ready_between yard (Some before) (Some minute))
      (ready_so_far yard (Some minute)) (taken_so_far yard (Some minute)) taken ready

  -- these are the row of a minute or of the start, and the totals up to it
  record IsUpTo (before : Option ℕ) (totals : Totals) (row : YardRow) : Type 0 where
    taken : totals.taken ≡ taken_so_far yard before
    ready : totals.ready ≡ ready_so_far yard before
    count : row.count ≡ count_of_row yard before

  at_minute : (before : Option ℕ) (minute : ℕ) (totals : Totals) (row : YardRow) → IsBefore before minute → AreApart before minute → IsUpTo before totals row
      → IsOfMinute yard minute (with_row totals (minute_row yard before minute)) row (minute_row yard before minute)
  at_minute before minute totals row rise apart up =
      let taken = takes before minute rise apart in
      let ready = gives before minute rise in
      record {
        time = refl;
        total_taken = ap (λ n. n + taken_at yard minute) up.taken ∙ taken;
        total_ready = ap (λ n. n + ready_between yard before (Some minute)) up.ready ∙ ready;
        count = counts before minute taken ready ∙ ap (λ c. c +ℤ pos (ready_between yard before (Some minute))) (sym up.count);
      }

  last_count : (before : Option ℕ) → taken_so_far yard before ≡ all_taken yard.day yard.lists yard.station yard.unit_type
      → ready_so_far yard before + ready_between yard before None ≡ all_given yard.day yard.lists yard.station yard.unit_type
      → end_count_of yard.day yard.lists yard.station yard.unit_type ≡ count_of_row yard before +ℤ pos (ready_between yard before None)
  last_count None taken ready =
      count_only (start_of yard.day yard.station yard.unit_type) (ready_between yard None None) (all_given yard.day yard.lists yard.station yard.unit_type)
      (all_taken yard.day yard.lists yard.station yard.unit_type) taken ready
  last_count (Some before) taken ready =
      count_last (start_of yard.day yard.station yard.unit_type) (ready_so_far yard (Some before)) (taken_so_far yard (Some before)) (ready_between yard (Some before) None)
      (all_given yard.day yard.lists yard.station yard.unit_type) (all_taken yard.day yard.lists yard.station yard.unit_type) taken ready

  at_end : (before : Option ℕ) (totals : Totals) (row : YardRow) → ArePast before → IsUpTo before totals row → IsOfEnd yard (with_row totals (end_row yard before)) row (end_row yard before)
  at_end before totals row past up =
      let taken = takes_end before past in
      let ready = gives_end before in
      record {
        time = refl;
        taken = refl;
        total_taken = no_more totals.taken ∙ up.taken ∙ taken;
        total_ready = ap (λ n. n + ready_between yard before None) up.ready ∙ ready;
        count = last_count before taken ready ∙ ap (λ c. c +ℤ pos (ready_between yard before None)) (sym up.count);
      }

  -- these are the departure minutes behind a row
  record Remain (before : Option ℕ) (minutes : List ℕ) : Type 0 where
    rise : AllPairs (λ a b. a < b) minutes
    later : (minute : ℕ) → Contains minutes minute → IsBefore before minute
    all : (t : ℕ) → t < trips → from_of yard.day t ≡ yard.station → IsPast before (leaves yard.day t) ⊎ Contains minutes (leaves yard.day t)

  apart_from : (before : Option ℕ) (minute : ℕ) (minutes : List ℕ) → Remain before (minute ∷ minutes) → AreApart before minute
  apart_from before minute minutes remain t lt is = elim (remain.all t lt is) [
    | inl past ↦ inl past
    | inr there ↦ elim (first_or_later minute minutes (leaves yard.day t) there) [
      | inl now ↦ inr (omega (arith, now))
      | inr later ↦ inr (omega (arith, first_is_lower minute minutes remain.rise (leaves yard.day t) later))
    ]
  ]

  next_all : (before : Option ℕ) (minute : ℕ) (minutes : List ℕ) → Remain before (minute ∷ minutes) → (t : ℕ) → t < trips → from_of yard.day t ≡ yard.station
      → (leaves yard.day t ≤ minute) ⊎ Contains minutes (leaves yard.day t)
  next_all before minute minutes remain t lt is = elim (remain.all t lt is) [
    | inl past ↦ inl (past_later before minute (leaves yard.day t) (remain.later minute (is_first minute minutes)) past)
    | inr there ↦ elim (first_or_later minute minutes (leaves yard.day t) there) [
      | inl now ↦ inl (omega (arith, now))
      | inr later ↦ inr later
    ]
  ]

  remain_next : (before : Option ℕ) (minute : ℕ) (minutes : List ℕ) → Remain before (minute ∷ minutes) → Remain (Some minute) minutes
  remain_next before minute minutes remain = record {
    rise = λ i j d order below. remain.rise (suc i) (suc j) d (omega arith) (omega arith);
    later = first_is_lower minute minutes remain.rise;
    all = next_all before minute minutes remain;
  }

  past_all : (before : Option ℕ) → Remain before [] → ArePast before
  past_all before remain t lt is = elim (remain.all t lt is) [
    | inl past ↦ past
    | inr there ↦ absurd (in_none (leaves yard.day t) there)
  ]

  add_up : (before : Option ℕ) (minutes : List ℕ) (totals : Totals) (row : YardRow) → Remain before minutes → IsUpTo before totals row
      → AddUpAfter yard minutes totals row (rows_after yard before minutes)
  add_up before [] totals row remain up = at_end before totals row (past_all before remain) up
  add_up before (minute ∷ minutes) totals row remain up =
      let next = minute_row yard before minute in
      let at = at_minute before minute totals row (remain.later minute (is_first minute minutes)) (apart_from before minute minutes remain) up in
      (at, add_up (Some minute) minutes (with_row totals next) next (remain_next before minute minutes remain) (record { taken = at.total_taken; ready = at.total_ready; count = refl }))

pub yards_add_up : YardsAddUp
yards_add_up yard =
    let are : AreMinutes yard.day yard.station (minutes_of yard.day yard.station) = are_minutes yard.day yard.station in (
      record { time = refl; taken = refl; ready = refl; count = refl },
      add_up yard None (minutes_of yard.day yard.station) (record { taken = 0; ready = 0 }) (start_row yard) (record {
        rise = are.rise;
        later = λ minute there. tt;
        all = λ t lt is. inr (are.all (leaves yard.day t) (record { trip = t; known = lt; station = is; minute = refl }));
      }) (record { taken = refl; ready = refl; count = refl }),
    )
