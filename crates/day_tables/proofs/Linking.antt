-- What each accepted row of the links is known to be, and what is known of all of them.
use Rattle.std.proofs.Common.{◌≡◌, ◌≢◌, ◌⊎◌, inl, inr, ℕ, ◌+◌, ◌<◌, ◌≤◌, Bool, true, false, List, [], ◌∷◌, ◌++◌, length}
use Rattle.std.proofs.Common.{refl, sym, subst, ◌∙◌, zero-add, arith, Option, Some, None, Result, Ok, Err, slice_get}
use Rattle.std.specs.Prelude.{◌||◌, ◌==◌, nat_le, if◌then◌else◌}
use Rattle.std.specs.List.{All, list_any}
use Rattle.std.proofs.lemmas.Bool.{and_parts, or_parts, leb-true, leb-false, eqb-true, eqb-false, ne_eqb, eq-eqb}
use Rattle.std.proofs.lemmas.Bool.{cases_eq}
use Rattle.std.proofs.lemmas.List.Elements.{All-nil}
use Rattle.std.proofs.lemmas.Option.{slice_get_within, same_Some}
use Rattle.rules.specs.declared.records.End.{End}
use Rattle.rules.specs.declared.records.End.TheVariants as at
use Rattle.rail_csv.specs.declared.rows.KindWord.{KindWord}
use Rattle.rail_csv.specs.declared.rows.KindWord.TheVariants as words
use Rattle.rail_csv.specs.declared.rows.LinkRow.{LinkRow}
use Rattle.rail_csv.specs.declared.rows.Table.TheVariants as tables
use Rattle.rules.specs.declared.records.Link.{Link}
use Rattle.rules.specs.declared.records.LinkKind.{LinkKind}
use Rattle.rules.specs.declared.records.LinkKind.TheVariants.{Turn, Join, Split}
use Rattle.rules.specs.declared.records.Trip.{Trip}
use Rattle.day_tables.specs.declared.building.refusal.InstanceRefusal.{InstanceRefusal}
use Rattle.day_tables.specs.declared.building.refusal.InstanceRefusal.TheVariants.{UnknownName, TripUsedTwice}
use Rattle.day_tables.specs.declared.building.refusal.InstanceRefusal.TheVariants.{WrongStation, TooEarly}
use Rattle.day_tables.specs.declared.building.refusal.InstanceRefusal.TheVariants.{WrongLinkFields}
use Rattle.day_tables.specs.Accepted.{AreLinks, DoMeet, times_named}
use Rattle.day_tables.specs.Day.{Day, leaves, arrives, from_of, to_of}
use Rattle.day_tables.specs.LinkRows.{trip_named, is_an_end, lacks_an_end, does_shunt, turn_in, join_in, split_in}
use Rattle.day_tables.specs.LinkRows.{kind_of, NamesBelow, is_arriving, is_departing, names_again, do_meet, is_in_time}
use Rattle.day_tables.specs.LinkRows.{each_pair, accept_trips, accept_link, links_in}
use Rattle.day_tables.specs.Links.{arriving_in, departing_in}
use Rattle.day_tables.specs.Lists.{count_of, has}
use Rattle.day_tables.specs.Meaning.{IsKindOf}
use Rattle.day_tables.specs.NamedEntries.{find_name}
use Rattle.rail_base.specs.Answers.{◌>>=◌}
use Rattle.day_tables.specs.Rowwise.{row_after, accept_each}
use Rattle.day_tables.proofs.Accepting.{bind_ok, guard_ok, choice_ok, found_ok, same_ok, accepted_all}
use Rattle.day_tables.proofs.Days.{entry_at}
use Rattle.day_tables.proofs.Entries.{found_name}

-- ---- the kind of a row

-- the number of the trip with the name
abbrev pub IsFound : List Trip → List ℕ → ℕ → Type 0
IsFound trips name t = find_name (λ trip. trip.name) trips name ≡ Some t

found : (trips : List Trip) (number column : ℕ) (name : List ℕ) (t : ℕ) → trip_named trips number column name ≡ Ok t → IsFound trips name t
found trips number column name t e = found_ok (find_name (λ trip. trip.name) trips name) (UnknownName tables.Links number column) t e

no_end : (e : End) → is_an_end e ≡ false → e ≡ at.None
no_end at.None e = refl
no_end at.Front e = absurd cc
no_end at.Rear e = absurd cc

-- an exchange has two ends
pub two_ends : (uncouple couple : End) (exchange : Bool) → lacks_an_end uncouple couple exchange ≡ false → exchange ≡ true → (uncouple ≢ at.None) × (couple ≢ at.None)
two_ends uncouple couple false none is = absurd (cc)
two_ends at.None couple true none is = absurd (cc)
two_ends at.Front at.None true none is = absurd (cc)
two_ends at.Rear at.None true none is = absurd (cc)
two_ends at.Front at.Front true none is = (λ e. cc, λ e. cc)
two_ends at.Front at.Rear true none is = (λ e. cc, λ e. cc)
two_ends at.Rear at.Front true none is = (λ e. cc, λ e. cc)
two_ends at.Rear at.Rear true none is = (λ e. cc, λ e. cc)

turn_made : (trips : List Trip) (number : ℕ) (row : LinkRow) (second second_out : Option (List ℕ)) (kind : LinkKind) → row.kind ≡ words.Turn → row.arriving2 ≡ second → row.departing2 ≡ second_out
    → turn_in trips number row second second_out ≡ Ok kind → IsKindOf (IsFound trips) row kind
unfolding turn_in
turn_made trips number row None None kind word none none_out e =
    let (no_lack, e0) = guard_ok (lacks_an_end row.uncouple row.couple row.exchange) (WrongLinkFields number) (trip_named trips number 1 row.arriving >>= (λ a. trip_named trips number 3 row.departing >>= (λ b. Ok (Turn a b row.uncouple row.couple row.exchange)))) kind e in
    let (a, is_a, e1) = bind_ok (trip_named trips number 1 row.arriving) (λ a. trip_named trips number 3 row.departing >>= (λ b. Ok (Turn a b row.uncouple row.couple row.exchange))) kind e0 in
    let (b, is_b, e2) = bind_ok (trip_named trips number 3 row.departing) (λ b. Ok (Turn a b row.uncouple row.couple row.exchange)) kind e1 in
    subst (IsKindOf (IsFound trips) row) {x = Turn a b row.uncouple row.couple row.exchange} (same_ok (Turn a b row.uncouple row.couple row.exchange) kind e2) (record {
      kind = word;
      arriving = found trips number 1 row.arriving a is_a;
      no_arriving2 = none;
      departing = found trips number 3 row.departing b is_b;
      no_departing2 = none_out;
      uncoupling = refl;
      coupling = refl;
      exchanging = refl;
      two_ends = two_ends row.uncouple row.couple row.exchange no_lack;
    })
turn_made trips number row (Some name) second_out kind word some any e = absurd cc
turn_made trips number row None (Some name) kind word none some e = absurd cc

join_made : (trips : List Trip) (number : ℕ) (row : LinkRow) (second second_out : Option (List ℕ)) (kind : LinkKind) → row.kind ≡ words.Join → row.arriving2 ≡ second → row.departing2 ≡ second_out
    → join_in trips number row second second_out ≡ Ok kind → IsKindOf (IsFound trips) row kind
unfolding join_in
join_made trips number row (Some name) None kind word some none_out e =
    let last : ℕ → ℕ → Result LinkKind InstanceRefusal = λ a1 a2. trip_named trips number 3 row.departing >>= (λ b. Ok (Join a1 a2 b)) in
    let (no_shunt, e0) = guard_ok (does_shunt row.uncouple row.couple row.exchange) (WrongLinkFields number) (trip_named trips number 1 row.arriving >>= (λ a1. trip_named trips number 2 name >>= (λ a2. last a1 a2))) kind e in
    let (no_ends, no_exchange) = or_parts (is_an_end row.uncouple || is_an_end row.couple) row.exchange no_shunt in
    let (no_uncoupling, no_coupling) = or_parts (is_an_end row.uncouple) (is_an_end row.couple) no_ends in
    let (a1, is_a1, e1) = bind_ok (trip_named trips number 1 row.arriving) (λ a1. trip_named trips number 2 name >>= (λ a2. last a1 a2)) kind e0 in
    let (a2, is_a2, e2) = bind_ok (trip_named trips number 2 name) (λ a2. last a1 a2) kind e1 in
    let (b, is_b, e3) = bind_ok (trip_named trips number 3 row.departing) (λ b. Ok (Join a1 a2 b)) kind e2 in
    subst (IsKindOf (IsFound trips) row) {x = Join a1 a2 b} (same_ok (Join a1 a2 b) kind e3) (record {
      kind = word;
      arriving = found trips number 1 row.arriving a1 is_a1;
      name = name;
      named = some;
      arriving2 = found trips number 2 name a2 is_a2;
      departing = found trips number 3 row.departing b is_b;
      no_departing2 = none_out;
      no_uncoupling = no_end row.uncouple no_uncoupling;
      no_coupling = no_end row.couple no_coupling;
      no_exchange = no_exchange;
    })
join_made trips number row None second_out kind word none any e = absurd cc
join_made trips number row (Some name) (Some other) kind word some some_out e = absurd cc

split_made : (trips : List Trip) (number : ℕ) (row : LinkRow) (second second_out : Option (List ℕ)) (kind : LinkKind) → row.kind ≡ words.Split → row.arriving2 ≡ second → row.departing2 ≡ second_out
    → split_in trips number row second second_out ≡ Ok kind → IsKindOf (IsFound trips) row kind
unfolding split_in
split_made trips number row None (Some name) kind word none some e =
    let last : ℕ → ℕ → Result LinkKind InstanceRefusal = λ a b1. trip_named trips number 4 name >>= (λ b2. Ok (Split a b1 b2)) in
    let (no_shunt, e0) = guard_ok (does_shunt row.uncouple row.couple row.exchange) (WrongLinkFields number) (trip_named trips number 1 row.arriving >>= (λ a. trip_named trips number 3 row.departing >>= (λ b1. last a b1))) kind e in
    let (no_ends, no_exchange) = or_parts (is_an_end row.uncouple || is_an_end row.couple) row.exchange no_shunt in
    let (no_uncoupling, no_coupling) = or_parts (is_an_end row.uncouple) (is_an_end row.couple) no_ends in
    let (a, is_a, e1) = bind_ok (trip_named trips number 1 row.arriving) (λ a. trip_named trips number 3 row.departing >>= (λ b1. last a b1)) kind e0 in
    let (b1, is_b1, e2) = bind_ok (trip_named trips number 3 row.departing) (λ b1. last a b1) kind e1 in
    let (b2, is_b2, e3) = bind_ok (trip_named trips number 4 name) (λ b2. Ok (Split a b1 b2)) kind e2 in
    subst (IsKindOf (IsFound trips) row) {x = Split a b1 b2} (same_ok (Split a b1 b2) kind e3) (record {
      kind = word;
      arriving = found trips number 1 row.arriving a is_a;
      no_arriving2 = none;
      departing = found trips number 3 row.departing b1 is_b1;
      name = name;
      named = some;
      departing2 = found trips number 4 name b2 is_b2;
      no_uncoupling = no_end row.uncouple no_uncoupling;
      no_coupling = no_end row.couple no_coupling;
      no_exchange = no_exchange;
    })
split_made trips number row (Some name) second_out kind word some any e = absurd cc
split_made trips number row None None kind word none none_out e = absurd cc

pub kind_made : (trips : List Trip) (number : ℕ) (row : LinkRow) (word : KindWord) (kind : LinkKind) → row.kind ≡ word → kind_of word trips number row ≡ Ok kind → IsKindOf (IsFound trips) row kind
kind_made trips number row words.Turn kind is e = turn_made trips number row row.arriving2 row.departing2 kind is refl refl e
kind_made trips number row words.Join kind is e = join_made trips number row row.arriving2 row.departing2 kind is refl refl e
kind_made trips number row words.Split kind is e = split_made trips number row row.arriving2 row.departing2 kind is refl refl e

-- the trips of a kind that was made are there
below : (trips : List Trip) (row : LinkRow) (kind : LinkKind) → IsKindOf (IsFound trips) row kind → NamesBelow (length trips) kind
below trips row (Turn a b uncouple couple exchange) is = ((found_name (λ t. t.name) trips row.arriving a is.arriving).0, (found_name (λ t. t.name) trips row.departing b is.departing).0)
below trips row (Join a1 a2 b) is = (
  (found_name (λ t. t.name) trips row.arriving a1 is.arriving).0,
  (found_name (λ t. t.name) trips is.name a2 is.arriving2).0,
  (found_name (λ t. t.name) trips row.departing b is.departing).0,
)
below trips row (Split a b1 b2) is = (
  (found_name (λ t. t.name) trips row.arriving a is.arriving).0,
  (found_name (λ t. t.name) trips row.departing b1 is.departing).0,
  (found_name (λ t. t.name) trips is.name b2 is.departing2).0,
)

-- ---- an accepted row

-- the link that was accepted is that of its row: its trips were found, are new, and meet in time
pub record IsLinkOfRow (trips : List Trip) (before : List Link) (row : LinkRow) (link : Link) : Type 0 where
  pub kind : IsKindOf (IsFound trips) row link.kind
  pub reverse : link.reverse ≡ row.reverse
  pub new : names_again before link.kind ≡ false
  pub meet : each_pair (do_meet trips) link.kind ≡ true
  pub in_time : each_pair (is_in_time trips) link.kind ≡ true

pub link_of_row : (trips : List Trip) (before : List Link) (row : LinkRow) (link : Link) → accept_link trips before row ≡ Ok link → IsLinkOfRow trips before row link
unfolding accept_link accept_trips
link_of_row trips before row link e =
    let number : ℕ = row_after before in
    let made : LinkKind → Link = λ kind. record { kind = kind; reverse = row.reverse } in
    let (kind, is_kind, e1) = bind_ok (kind_of row.kind trips number row) (λ kind. accept_trips trips before number (made kind)) link e in
    let timed : Result Link InstanceRefusal = if each_pair (is_in_time trips) kind then Ok (made kind) else Err (TooEarly number) in
    let (new, e2) = guard_ok (names_again before kind) (TripUsedTwice number) (if each_pair (do_meet trips) kind then timed else Err (WrongStation number)) link e1 in
    let (meet, e3) = choice_ok (each_pair (do_meet trips) kind) (WrongStation number) timed link e2 in
    let (in_time, e4) = choice_ok (each_pair (is_in_time trips) kind) (TooEarly number) (Ok (made kind)) link e3 in
    subst (IsLinkOfRow trips before row) {x = made kind} (same_ok (made kind) link e4) (record {
      kind = kind_made trips number row row.kind kind refl is_kind;
      reverse = refl;
      new = new;
      meet = meet;
      in_time = in_time;
    })

-- ---- the trips of a link

pub has_one : (t a : ℕ) → has t (a ∷ []) ≡ true → t ≡ a
has_one t a here = elim (cases_eq a t) [
  | inl is ↦ sym is
  | inr differ ↦
      let none : nat_le 1 ((if false then 1 else 0) + 0) ≡ true = subst (λ (b : Bool). nat_le 1 ((if b then 1 else 0) + 0) ≡ true) (ne_eqb a t differ) here in
      absurd cc
]

pub has_two : (t a b : ℕ) → has t (a ∷ b ∷ []) ≡ true → (t ≡ a) ⊎ (t ≡ b)
has_two t a b here = elim (cases_eq a t) [
  | inl is ↦ inl (sym is)
  | inr differ ↦
      let rest : nat_le 1 (0 + count_of t (b ∷ [])) ≡ true = subst (λ (test : Bool). nat_le 1 ((if test then 1 else 0) + count_of t (b ∷ [])) ≡ true) (ne_eqb a t differ) here in
      inr (has_one t b (subst (λ (n : ℕ). nat_le 1 n ≡ true) (zero-add (count_of t (b ∷ []))) rest))
]

-- each pair of trips passes
pub pair_passes : (test : ℕ → ℕ → Bool) (kind : LinkKind) → each_pair test kind ≡ true → (a b : ℕ) → has a (arriving_in kind) ≡ true → has b (departing_in kind) ≡ true → test a b ≡ true
pair_passes test (Turn a b uncouple couple exchange) all x y here there =
    subst (λ (x : ℕ). test x y ≡ true) (sym (has_one x a here)) (subst (λ (y : ℕ). test a y ≡ true) (sym (has_one y b there)) all)
pair_passes test (Join a1 a2 b) all x y here there =
    let (first, second) = and_parts (test a1 b) (test a2 b) all in
    subst (λ (y : ℕ). test x y ≡ true) (sym (has_one y b there)) (elim (has_two x a1 a2 here) [
      | inl is ↦ subst (λ (x : ℕ). test x b ≡ true) (sym is) first
      | inr is ↦ subst (λ (x : ℕ). test x b ≡ true) (sym is) second
    ])
pair_passes test (Split a b1 b2) all x y here there =
    let (first, second) = and_parts (test a b1) (test a b2) all in
    subst (λ (x : ℕ). test x y ≡ true) (sym (has_one x a here)) (elim (has_two y b1 b2 there) [
      | inl is ↦ subst (λ (y : ℕ). test a y ≡ true) (sym is) first
      | inr is ↦ subst (λ (y : ℕ). test a y ≡ true) (sym is) second
    ])

-- the trips that a kind names are below its bound
arriving_below : (n : ℕ) (kind : LinkKind) → NamesBelow n kind → (t : ℕ) → has t (arriving_in kind) ≡ true → t < n
arriving_below n (Turn a b uncouple couple exchange) within t here = subst (λ (t : ℕ). t < n) (sym (has_one t a here)) within.0
arriving_below n (Join a1 a2 b) within t here = elim (has_two t a1 a2 here) [
  | inl is ↦ subst (λ (t : ℕ). t < n) (sym is) within.0
  | inr is ↦ subst (λ (t : ℕ). t < n) (sym is) within.1
]
arriving_below n (Split a b1 b2) within t here = subst (λ (t : ℕ). t < n) (sym (has_one t a here)) within.0

departing_below : (n : ℕ) (kind : LinkKind) → NamesBelow n kind → (t : ℕ) → has t (departing_in kind) ≡ true → t < n
departing_below n (Turn a b uncouple couple exchange) within t here = subst (λ (t : ℕ). t < n) (sym (has_one t b here)) within.1
departing_below n (Join a1 a2 b) within t here = subst (λ (t : ℕ). t < n) (sym (has_one t b here)) within.2
departing_below n (Split a b1 b2) within t here = elim (has_two t b1 b2 here) [
  | inl is ↦ subst (λ (t : ℕ). t < n) (sym is) within.1
  | inr is ↦ subst (λ (t : ℕ). t < n) (sym is) within.2
]

-- ---- each trip once

times_pushed : (side : LinkKind → List ℕ) (links : List Link) (link : Link) (t : ℕ) → times_named side (links ++ link ∷ []) t ≡ times_named side links t + count_of t (side link.kind)
times_pushed side [] link t = omega arith
times_pushed side (first ∷ links) link t = omega (arith, times_pushed side links link t)

not_named : (side : LinkKind → List ℕ) (links : List Link) (t : ℕ) → list_any (λ link. has t (side link.kind)) links ≡ false → times_named side links t ≡ 0
not_named side [] t none = refl
not_named side (link ∷ links) t none =
    let (here, later) = or_parts (has t (side link.kind)) (list_any (λ link. has t (side link.kind)) links) none in
    let few : count_of t (side link.kind) < 1 = leb-false 1 (count_of t (side link.kind)) here in
    omega (arith, not_named side links t later)

-- one more trip, which no link before named
one_more : (side : LinkKind → List ℕ) (before : List Link) (a t : ℕ) → list_any (λ link. has a (side link.kind)) before ≡ false → times_named side before t ≤ 1
    → times_named side before t + count_of t (a ∷ []) ≤ 1
one_more side before a t new few = elim (cases_eq a t) [
  | inl is ↦
      let none : times_named side before t ≡ 0 = not_named side before t (subst (λ (a : ℕ). list_any (λ link. has a (side link.kind)) before ≡ false) is new) in
      subst (λ (test : Bool). times_named side before t + ((if test then 1 else 0) + 0) ≤ 1) (sym (eq-eqb a t is)) (omega arith)
  | inr differ ↦ subst (λ (test : Bool). times_named side before t + ((if test then 1 else 0) + 0) ≤ 1) (sym (ne_eqb a t differ)) (omega arith)
]

-- two more trips, which differ
two_more : (side : LinkKind → List ℕ) (before : List Link) (a b t : ℕ) → (a == b) ≡ false → list_any (λ link. has a (side link.kind)) before ≡ false → list_any (λ link. has b (side link.kind)) before ≡ false
    → times_named side before t ≤ 1 → times_named side before t + count_of t (a ∷ b ∷ []) ≤ 1
two_more side before a b t differ new_a new_b few = elim (cases_eq a t) [
  | inl is ↦
      let none : times_named side before t ≡ 0 = not_named side before t (subst (λ (a : ℕ). list_any (λ link. has a (side link.kind)) before ≡ false) is new_a) in
      let other : b ≢ t = λ same. eqb-false a b differ (is ∙ sym same) in
      subst (λ (test : Bool). times_named side before t + ((if a == t then 1 else 0) + ((if test then 1 else 0) + 0)) ≤ 1) (sym (ne_eqb b t other))
      (subst (λ (test : Bool). times_named side before t + ((if test then 1 else 0) + (0 + 0)) ≤ 1) (sym (eq-eqb a t is)) (omega arith))
  | inr apart ↦
      subst (λ (test : Bool). times_named side before t + ((if test then 1 else 0) + count_of t (b ∷ [])) ≤ 1) (sym (ne_eqb a t apart))
      (let more : times_named side before t + count_of t (b ∷ []) ≤ 1 = one_more side before b t new_b few in omega arith)
]

-- no trip is named twice on one side
pub record IsOnce (links : List Link) : Type 0 where
  pub arriving : (t : ℕ) → times_named arriving_in links t ≤ 1
  pub departing : (t : ℕ) → times_named departing_in links t ≤ 1

kind_once : (before : List Link) (kind : LinkKind) (t : ℕ) → IsOnce before → names_again before kind ≡ false
    → (times_named arriving_in before t + count_of t (arriving_in kind) ≤ 1) × (times_named departing_in before t + count_of t (departing_in kind) ≤ 1)
kind_once before (Turn a b uncouple couple exchange) t once new =
    let (new_a, new_b) = or_parts (is_arriving before a) (is_departing before b) new in
    (one_more arriving_in before a t new_a (once.arriving t), one_more departing_in before b t new_b (once.departing t))
kind_once before (Join a1 a2 b) t once new =
    let (rest, new_b) = or_parts (a1 == a2 || is_arriving before a1 || is_arriving before a2) (is_departing before b) new in
    let (rest2, new_a2) = or_parts (a1 == a2 || is_arriving before a1) (is_arriving before a2) rest in
    let (differ, new_a1) = or_parts (a1 == a2) (is_arriving before a1) rest2 in
    (two_more arriving_in before a1 a2 t differ new_a1 new_a2 (once.arriving t), one_more departing_in before b t new_b (once.departing t))
kind_once before (Split a b1 b2) t once new =
    let (rest, new_b2) = or_parts (b1 == b2 || is_arriving before a || is_departing before b1) (is_departing before b2) new in
    let (rest2, new_b1) = or_parts (b1 == b2 || is_arriving before a) (is_departing before b1) rest in
    let (differ, new_a) = or_parts (b1 == b2) (is_arriving before a) rest2 in
    (one_more arriving_in before a t new_a (once.arriving t), two_more departing_in before b1 b2 t differ new_b1 new_b2 (once.departing t))

all_once : (trips : List Trip) (before : List Link) (rows : List LinkRow) (links : List Link) → IsOnce before → accept_each (accept_link trips) before rows ≡ Ok links → IsOnce links
all_once trips before [] links once e = subst IsOnce (same_ok before links e) once
all_once trips before (row ∷ rows) links once e =
    let (link, is, more) = bind_ok (accept_link trips before row) (λ link. accept_each (accept_link trips) (before ++ link ∷ []) rows) links e in
    let of_row : IsLinkOfRow trips before row link = link_of_row trips before row link is in
    all_once trips (before ++ link ∷ []) rows links
    (record {
      arriving = λ t. let here = kind_once before link.kind t once of_row.new in omega (arith, times_pushed arriving_in before link t, here.0);
      departing = λ t. let here = kind_once before link.kind t once of_row.new in omega (arith, times_pushed departing_in before link t, here.1);
    })
    more

-- ---- all links

-- the trips of a link are there, and meet in time
pub record IsLinkAt (trips : List Trip) (link : Link) : Type 0 where
  pub within : NamesBelow (length trips) link.kind
  pub meet : each_pair (do_meet trips) link.kind ≡ true
  pub in_time : each_pair (is_in_time trips) link.kind ≡ true

are_at : (trips : List Trip) (rows : List LinkRow) (links : List Link) → links_in trips rows ≡ Ok links → All (IsLinkAt trips) links
unfolding links_in
are_at trips rows links e = accepted_all (accept_link trips) (λ _. Unit {0}) (IsLinkAt trips)
    (λ before row link _ is.
    let of_row : IsLinkOfRow trips before row link = link_of_row trips before row link is in
    record { within = below trips row link.kind of_row.kind; meet = of_row.meet; in_time = of_row.in_time })
    [] rows links (All-nil (IsLinkAt trips)) (λ k d below. tt) e

link_at : (trips : List Trip) (links : List Link) (l : ℕ) (link : Link) → All (IsLinkAt trips) links → slice_get links l ≡ Some link → IsLinkAt trips link
link_at trips links l link all at =
    let (found, is, known) = entry_at (IsLinkAt trips) links l (slice_get_within links l link at) all in
    subst (IsLinkAt trips) (same_Some found link (sym is ∙ at)) known

pub are_links : (day : Day) (rows : List LinkRow) → links_in day.trips rows ≡ Ok day.links → AreLinks day
unfolding links_in leaves arrives
are_links day rows e =
    let all : All (IsLinkAt day.trips) day.links = are_at day.trips rows day.links e in
    let once : IsOnce day.links = all_once day.trips [] rows day.links (record { arriving = λ t. omega arith; departing = λ t. omega arith }) e in
    record {
      arriving_once = once.arriving;
      departing_once = once.departing;
      arriving = λ l t link at here. arriving_below (length day.trips) link.kind (link_at day.trips day.links l link all at).within t here;
      departing = λ l t link at here. departing_below (length day.trips) link.kind (link_at day.trips day.links l link all at).within t here;
      in_time = λ l a b link at here there. leb-true (arrives day a) (leaves day b) (pair_passes (is_in_time day.trips) link.kind (link_at day.trips day.links l link all at).in_time a b here there);
    }

pub do_all_meet : (day : Day) (rows : List LinkRow) → links_in day.trips rows ≡ Ok day.links → DoMeet day
unfolding from_of to_of
do_all_meet day rows e =
    let all : All (IsLinkAt day.trips) day.links = are_at day.trips rows day.links e in
    record {
      station = λ l a b link at here there. eqb-true (to_of day a) (from_of day b) (pair_passes (do_meet day.trips) link.kind (link_at day.trips day.links l link all at).meet a b here there);
    }
