-- The rows of the table of urgent units.
use Rattle.std.proofs.Common.{◌≡◌, ℕ, zero, suc, ◌+◌, ◌≤◌, ◌<◌, List, [], ◌∷◌, ◌++◌, length, map, Some, refl, sym, ap, ◌∙◌, subst, arith}
use Rattle.std.proofs.Common.{IsTrue, inl, inr, Option, None, IsUtf8}
use Rattle.std.specs.Prelude.{MatchOption, unwrap_or, option_map}
use Rattle.rules.specs.declared.records.Unit as unit
use Rattle.std.specs.List.{All, AllPairs, AllZip, slice_get}
use Rattle.std.specs.Str.{bytes_eq}
use Rattle.std.proofs.lemmas.Bool.{cases_eq, leb-true}
use Rattle.std.proofs.lemmas.List.Kept.{AllPairs-cons}
use Rattle.std.proofs.lemmas.List.Quantifiers.{position-Some}
use Rattle.std.proofs.lemmas.List.{append_assoc, append-nil, length-map, map-append}
use Rattle.std.proofs.lemmas.List.Elements.{All-append, All-head, All-tail, All-cons, All-nil}
use Rattle.rail_csv.specs.Columns.{field}
use Rattle.rail_csv.specs.Records.{Records, ReadsOn, records_left}
use Rattle.timetable.specs.Day.{Day, type_of, units_of, unit_count}
use Rattle.rules.specs.declared.records.Station.{Station}
use Rattle.timetable.specs.Lists.{has, count_of, sum_below, IsDistinct}
use Rattle.timetable.specs.NamedEntries.{find_name}
use Rattle.timetable.proofs.Ones.{one, one_same, one_other}
use Rattle.timetable.proofs.Passing.{each_before}
use Rattle.timetable.proofs.Sums.{sum_add, sum_le, sum_ones}
use Rattle.rules.proofs.Turning.{count_of-append}
use Rattle.urgent_units.specs.declared.wish.Wish.{Wish}
use Rattle.urgent_units.specs.declared.wish.WishRow.{WishRow}
use Rattle.urgent_units.specs.WishReading.{AreRows, HasOneMore, IsRightAfter}
use Rattle.urgent_units.specs.Wishes.{AreRight, GoTogether, HasRecords, IsFirstBad, IsWish, IsWishOf, NamesStation, SpellsWish}

-- ---- lists with one more at the end

pub pairs_nil : {X : Type 0} (R : X → X → Type 0) → AllPairs R []
pairs_nil R i j d order below = absurd (omega arith)

pub pairs_head : {X : Type 0} (R : X → X → Type 0) (x : X) (xs : List X) → AllPairs R (x ∷ xs) → All (R x) xs
pairs_head R x xs pairs k d below = pairs 0 (suc k) d (omega arith) (omega (arith, below))

pub pairs_tail : {X : Type 0} (R : X → X → Type 0) (x : X) (xs : List X) → AllPairs R (x ∷ xs) → AllPairs R xs
pairs_tail R x xs pairs i j d order below = pairs (suc i) (suc j) d (omega (arith, order)) (omega (arith, below))

pub pairs_push : {X : Type 0} (R : X → X → Type 0) (xs : List X) (y : X) → AllPairs R xs → All (λ x. R x y) xs → AllPairs R (xs ++ y ∷ [])
pairs_push R [] y pairs each = AllPairs-cons R y [] (All-nil (R y)) (pairs_nil R)
pairs_push R (x ∷ xs) y pairs each =
    AllPairs-cons R x (xs ++ y ∷ [])
    (All-append (R x) xs (y ∷ []) (pairs_head R x xs pairs) (All-cons (R x) y [] (All-head (λ x. R x y) x xs each) (All-nil (R x))))
    (pairs_push R xs y (pairs_tail R x xs pairs) (All-tail (λ x. R x y) x xs each))

-- two lists, place by place, with one more of the one: it goes with the last one of the other
pub record HasLast {A B : Type 0} (R : A → B → Type 0) (xs : List A) (x : A) (ys : List B) : Type 0 where
  pub front : List B
  pub last : B
  pub parts : ys ≡ front ++ last ∷ []
  pub each : AllZip R xs front
  pub goes : R x last

pub zip_last : {A B : Type 0} (R : A → B → Type 0) (xs : List A) (x : A) (ys : List B) → AllZip R (xs ++ x ∷ []) ys → HasLast R xs x ys
zip_last R [] x [] zip = absurd zip
zip_last R [] x (y ∷ []) zip = record { front = []; last = y; parts = refl; each = tt; goes = zip.0 }
zip_last R [] x (y ∷ z ∷ zs) zip = absurd zip.1
zip_last R (a ∷ xs) x [] zip = absurd zip
zip_last R (a ∷ xs) x (y ∷ ys) zip =
    let r = zip_last R xs x ys zip.1 in
    record { front = y ∷ r.front; last = r.last; parts = ap (λ (zs : List _). y ∷ zs) r.parts; each = (zip.0, r.each); goes = r.goes }

pub zip_push : {A B : Type 0} (R : A → B → Type 0) (xs : List A) (ys : List B) (x : A) (y : B) → AllZip R xs ys → R x y → AllZip R (xs ++ x ∷ []) (ys ++ y ∷ [])
zip_push R [] [] x y zip goes = (goes, tt)
zip_push R [] (b ∷ ys) x y zip goes = absurd zip
zip_push R (a ∷ xs) [] x y zip goes = absurd zip
zip_push R (a ∷ xs) (b ∷ ys) x y zip goes = (zip.0, zip_push R xs ys x y zip.1 goes)

-- ---- what a record spells is one row

some_same : {m n : ℕ} → Some m ≡ Some n → m ≡ n
some_same e = cc

pub one_row : (day : Day) (fields : List (List ℕ)) (row other : WishRow) → SpellsWish day fields row → SpellsWish day fields other → row ≡ other
one_row day fields row other one two =
    let units : row.unit ≡ other.unit = sym one.unit.number.1 ∙ two.unit.number.1 in
    let depots : row.depot ≡ other.depot = some_same (sym one.depot.found ∙ two.depot.found) in
    ap (λ u. record { unit = u; depot = row.depot }) units ∙ ap (λ s. record { unit = other.unit; depot = s }) depots

pub same_rows : (day : Day) (records : List (List (List ℕ))) (rows others : List WishRow) → AllZip (SpellsWish day) records rows → AllZip (SpellsWish day) records others → rows ≡ others
same_rows day [] [] [] one two = refl
same_rows day [] [] (other ∷ others) one two = absurd two
same_rows day [] (row ∷ rows) others one two = absurd one
same_rows day (r ∷ records) [] others one two = absurd one
same_rows day (r ∷ records) (row ∷ rows) [] one two = absurd two
same_rows day (r ∷ records) (row ∷ rows) (other ∷ others) one two =
    ap (λ (x : WishRow). x ∷ rows) (one_row day r row other one.0 two.0) ∙ ap (λ (xs : List WishRow). other ∷ xs) (same_rows day records rows others one.1 two.1)

-- ---- one record more

pub right_with : (day : Day) (seen : List (List (List ℕ))) (rows : List WishRow) (fields : List (List ℕ)) (row : WishRow) → AreRight day seen rows → IsRightAfter day rows fields row
    → AreRight day (seen ++ fields ∷ []) (rows ++ row ∷ [])
right_with day seen rows fields row right after = record {
  each = zip_push (SpellsWish day) seen rows fields row right.each after.spells;
  together = pairs_push (GoTogether day) rows row right.together after.together;
}

-- where no row is right after the rows before it, the records are not right with this one
pub wrong_with : (day : Day) (seen : List (List (List ℕ))) (rows more : List WishRow) (fields : List (List ℕ)) → AreRight day seen rows
    → ((row : WishRow) → ¬ IsRightAfter day rows fields row) → ¬ AreRight day (seen ++ fields ∷ []) more
wrong_with day seen rows more fields right none wrong =
    let last = zip_last (SpellsWish day) seen fields more wrong.each in
    let same : last.front ≡ rows = same_rows day seen last.front rows last.each right.each in
    let pairs : AllPairs (GoTogether day) (last.front ++ last.last ∷ []) = subst (λ (xs : List WishRow). AllPairs (GoTogether day) xs) last.parts wrong.together in
    let each : All (λ other. GoTogether day other last.last) last.front = each_before (GoTogether day) (last.front ++ last.last ∷ []) last.front last.last [] pairs refl in
    none last.last (record { spells = last.goes; together = subst (λ (xs : List WishRow). All (λ other. GoTogether day other last.last) xs) same each })

pub first_bad : (day : Day) (seen others : List (List (List ℕ))) (rows : List WishRow) (fields : List (List ℕ)) (number : ℕ) → AreRight day seen rows → number ≡ length rows + 1
    → ((row : WishRow) → ¬ IsRightAfter day rows fields row) → IsFirstBad day (seen ++ fields ∷ others) number
first_bad day seen others rows fields number right counted none = record {
  before = seen;
  bad = fields;
  others = others;
  parts = refl;
  counted = counted ∙ ap (λ n. n + 1) (as_long seen rows right.each);
  rows = rows;
  right = right;
  wrong = λ more. wrong_with day seen rows more fields right none;
}
  where
    as_long : (seen : List (List (List ℕ))) (rows : List WishRow) → AllZip (SpellsWish day) seen rows → length rows ≡ length seen
    as_long [] [] zip = refl
    as_long [] (row ∷ rows) zip = absurd zip
    as_long (r ∷ seen) [] zip = absurd zip
    as_long (r ∷ seen) (row ∷ rows) zip = ap suc (as_long seen rows zip.1)

-- ---- the units of rows

-- what holds of the unit of each row holds of each of the units
pub each_unit : (P : ℕ → Type 0) (rows : List WishRow) (u : ℕ) → All (λ row. P row.unit) rows → 1 ≤ count_of u (map (λ row. row.unit) rows) → P u
each_unit P [] u each there = absurd (omega (arith, there))
each_unit P (row ∷ rows) u each there = elim (cases_eq row.unit u) [
  | inl is ↦ subst P is (All-head (λ (row : WishRow). P row.unit) row rows each)
  | inr differs ↦ each_unit P rows u (All-tail (λ (row : WishRow). P row.unit) row rows each) (omega (arith, there, one_other row.unit u differs))
]

-- a unit that differs from those of all rows is none of them
pub not_there : (rows : List WishRow) (u : ℕ) → All (λ row. ¬ (u ≡ row.unit)) rows → count_of u (map (λ row. row.unit) rows) ≡ 0
not_there [] u each = refl
not_there (row ∷ rows) u each =
    let here = one_other row.unit u (λ e. All-head (λ (row : WishRow). ¬ (u ≡ row.unit)) row rows each (sym e)) in
    omega (arith, here, not_there rows u (All-tail (λ (row : WishRow). ¬ (u ≡ row.unit)) row rows each))

pub units_apart : (rows : List WishRow) → AllPairs (λ one other. ¬ (one.unit ≡ other.unit)) rows → IsDistinct (map (λ row. row.unit) rows)
units_apart [] apart u = omega arith
units_apart (row ∷ rows) apart u =
    let rest = units_apart rows (pairs_tail (λ (one other : WishRow). ¬ (one.unit ≡ other.unit)) row rows apart) u in
    let heads = pairs_head (λ (one other : WishRow). ¬ (one.unit ≡ other.unit)) row rows apart in
    elim (cases_eq row.unit u) [
      | inl is ↦
          let none = not_there rows row.unit heads in
          let here = one_same row.unit u is in
          let same = ap (λ n. count_of n (map (λ row. row.unit) rows)) is in
          omega (arith, none, here, same)
      | inr differs ↦ omega (arith, rest, one_other row.unit u differs)
    ]

-- numbers below a bound, none twice, are no more than it
pub few_units : (us : List ℕ) (n : ℕ) → ((u : ℕ) → 1 ≤ count_of u us → u < n) → IsDistinct us → length us ≤ n
few_units us n known apart =
    let counted = as_many us known in
    let ones = sum_le (λ u. count_of u us) (λ _. 1) n (λ u _. apart u) in
    omega (arith, counted, ones, sum_ones n)
  where
    adds_one : (x n : ℕ) → x < n → 1 ≤ sum_below (one x) n
    adds_one x zero below = absurd (omega (arith, below))
    adds_one x (suc n) below = elim (cases_eq x n) [
      | inl is ↦ omega (arith, one_same x n is)
      | inr differs ↦ omega (arith, adds_one x n (omega (arith, below, differs)))
    ]

    as_many : (us : List ℕ) → ((u : ℕ) → 1 ≤ count_of u us → u < n) → length us ≤ sum_below (λ u. count_of u us) n
    as_many [] known = omega arith
    as_many (u ∷ us) known =
        let here = one_same u u refl in
        let rest = as_many us (λ v c. known v (omega (arith, c))) in
        let more = sum_add (one u) (λ v. count_of v us) n in
        let first = adds_one u n (known u (omega (arith, here))) in
        omega (arith, rest, more, first)

pub few_rows : (day : Day) (rows : List WishRow) → AreRows day rows → length rows ≤ unit_count day
few_rows day rows are =
    let few = few_units (map (λ row. row.unit) rows) (unit_count day) (λ u c. each_unit (λ u. u < unit_count day) rows u are.known c) are.apart in
    omega (arith, few, length-map rows (λ (row : WishRow). row.unit))

pub no_rows : (day : Day) → AreRows day []
no_rows day = record { known = All-nil (λ (row : WishRow). row.unit < unit_count day); apart = λ u. omega arith }

-- one row more
pub rows_with : (day : Day) (rows : List WishRow) (fields : List (List ℕ)) (row : WishRow) → AreRows day rows → IsRightAfter day rows fields row → AreRows day (rows ++ row ∷ [])
rows_with day rows fields row are after = record {
  known = All-append (λ (row : WishRow). row.unit < unit_count day) rows (row ∷ []) are.known (All-cons (λ (row : WishRow). row.unit < unit_count day) row [] after.spells.unit.known (All-nil (λ (row : WishRow). row.unit < unit_count day)));
  apart = λ u. pushed u;
}
  where
    new : count_of row.unit (map (λ row. row.unit) rows) ≡ 0
    new = not_there rows row.unit (λ k d below e. (after.together k d below).units (sym e))

    pushed : (u : ℕ) → count_of u (map (λ row. row.unit) (rows ++ row ∷ [])) ≤ 1
    pushed u =
        let parts = ap (count_of u) (map-append (λ (row : WishRow). row.unit) rows (row ∷ [])) in
        let sum = count_of-append u (map (λ row. row.unit) rows) (row.unit ∷ []) in
        elim (cases_eq row.unit u) [
          | inl is ↦
              let none = ap (λ n. count_of n (map (λ row. row.unit) rows)) is in
              omega (arith, parts, sum, new, none, one_same row.unit u is)
          | inr differs ↦ omega (arith, parts, sum, are.apart u, one_other row.unit u differs)
        ]

-- ---- the rows that were read so far

pub record ReadSoFar (day : Day) (all : List (List (List ℕ))) (left : Records) (rows : List WishRow) : Type 0 where
  pub seen : List (List (List ℕ))
  pub parts : all ≡ seen ++ records_left left
  pub next : ReadsOn left
  pub are : AreRows day rows
  pub right : AreRight day seen rows

pub none_read : (day : Day) (left : Records) (rows : List WishRow) → ReadsOn left → rows ≡ [] → ReadSoFar day (records_left left) left rows
none_read day left rows next none = record {
  seen = [];
  parts = refl;
  next = next;
  are = subst (AreRows day) (sym none) (no_rows day);
  right = subst (AreRight day []) (sym none) (record { each = tt; together = pairs_nil (GoTogether day) });
}

pub read_one_more : (day : Day) (all : List (List (List ℕ))) (before after : Records) (rows more : List WishRow) (so_far : ReadSoFar day all before rows) → AreRows day more
    → HasOneMore day so_far.seen before after more → ReadSoFar day all after more
read_one_more day all before after rows more so_far are one = record {
  seen = so_far.seen ++ one.fields ∷ [];
  parts = so_far.parts ∙ ap (λ (rs : List (List (List ℕ))). so_far.seen ++ rs) one.first ∙ sym (append_assoc so_far.seen (one.fields ∷ []) (records_left after));
  next = one.next;
  are = are;
  right = one.right;
}

pub all_read : (day : Day) (all : List (List (List ℕ))) (left : Records) (rows more : List WishRow) → ReadSoFar day all left rows → records_left left ≡ [] → more ≡ rows → AreRight day all more
all_read day all left rows more so_far none same =
    let whole : so_far.seen ≡ all = sym (append-nil so_far.seen) ∙ sym (ap (λ (rs : List (List (List ℕ))). so_far.seen ++ rs) none) ∙ sym so_far.parts in
    subst (λ (rs : List (List (List ℕ))). AreRight day rs more) whole (subst (λ (xs : List WishRow). AreRight day so_far.seen xs) (sym same) so_far.right)

-- ---- the wish of the rows

pub no_records : (day : Day) (records : List (List (List ℕ))) (rows : List WishRow) → AreRight day records rows → rows ≡ [] → records ≡ []
no_records day [] rows right none = refl
no_records day (r ∷ records) rows right none = absurd (subst (λ (xs : List WishRow). AllZip (SpellsWish day) (r ∷ records) xs) none right.each)

pub known_rows : (day : Day) (records : List (List (List ℕ))) (rows : List WishRow) → AllZip (SpellsWish day) records rows → All (λ row. row.unit < unit_count day) rows
known_rows day [] [] zip = All-nil (λ (row : WishRow). row.unit < unit_count day)
known_rows day [] (row ∷ rows) zip = absurd zip
known_rows day (r ∷ records) [] zip = absurd zip
known_rows day (r ∷ records) (row ∷ rows) zip = All-cons (λ (row : WishRow). row.unit < unit_count day) row rows zip.0.unit.known (known_rows day records rows zip.1)

-- the first row is one of the day
pub first_known : (day : Day) (records : List (List (List ℕ))) (rows : List WishRow) (first : WishRow) → AreRight day records rows → slice_get rows 0 ≡ Some first → first.unit < unit_count day
first_known day records [] first right is = absurd cc
first_known day records (row ∷ rows) first right is =
    let same : row ≡ first = cc in
    subst (λ (r : WishRow). r.unit < unit_count day) same (All-head (λ (row : WishRow). row.unit < unit_count day) row rows (known_rows day records (row ∷ rows) right.each))

pub wish_of_rows : (day : Day) (bytes : List ℕ) (records : List (List (List ℕ))) (rows : List WishRow) (first : WishRow) (m : ℕ) (units : List ℕ)
    → HasRecords bytes records → AreRight day records rows → slice_get rows 0 ≡ Some first → type_of day first.unit ≡ m → units ≡ map (λ row. row.unit) rows
    → IsWishOf day bytes (record { unit_type = m; depot = first.depot; units = units })
wish_of_rows day bytes records [] first m units table right is type_is units_are = absurd cc
wish_of_rows day bytes [] (row ∷ rows) first m units table right is type_is units_are = absurd right.each
wish_of_rows day bytes (r ∷ records) (row ∷ rows) first m units table right is type_is units_are =
    let same : row ≡ first = cc in
    let heads = pairs_head (GoTogether day) row rows right.together in
    let here : type_of day row.unit ≡ m = ap (λ (x : WishRow). type_of day x.unit) same ∙ type_is in
    let there : row.depot ≡ first.depot = ap (λ (x : WishRow). x.depot) same in
    record {
      records = r ∷ records;
      rows = row ∷ rows;
      table = table;
      some = omega arith;
      right = right;
      units = units_are;
      unit_type = All-cons (λ (x : WishRow). type_of day x.unit ≡ m) row rows here (λ k d below. sym (heads k d below).unit_type ∙ here);
      depot = All-cons (λ (x : WishRow). x.depot ≡ first.depot) row rows there (λ k d below. sym (heads k d below).depot ∙ there);
    }

pub wish_of_day : (day : Day) (bytes : List ℕ) (wish : Wish) → IsWishOf day bytes wish → IsWish day wish
wish_of_day day bytes wish is = record {
  depot = at_depot is.records is.rows is.some is.right is.depot;
  known = λ u there. units_are (λ u. u < unit_count day) u (known_rows day is.records is.rows is.right.each) there;
  types = λ u there. units_are (λ u. type_of day u ≡ wish.unit_type) u is.unit_type there;
  distinct = subst IsDistinct (sym is.units) (units_apart is.rows (λ i j d order below. (is.right.together i j d order below).units));
}
  where
    units_are : (P : ℕ → Type 0) (u : ℕ) → All (λ row. P row.unit) is.rows → IsTrue (has u wish.units) → P u
    units_are P u each there = each_unit P is.rows u each (subst (λ (us : List ℕ). 1 ≤ count_of u us) is.units (leb-true 1 (count_of u wish.units) there))

    at_depot : (records : List (List (List ℕ))) (rows : List WishRow) → 1 ≤ length records → AreRight day records rows → All (λ row. row.depot ≡ wish.depot) rows → wish.depot < length day.stations
    at_depot [] rows some right depots = absurd (omega (arith, some))
    at_depot (r ∷ records) [] some right depots = absurd right.each
    at_depot (r ∷ records) (row ∷ rows) some right depots =
        let within = (position-Some (λ station. bytes_eq station.name (field r 1)) day.stations row.depot (no_station r row right.each.0) right.each.0.depot.found).0 in
        subst (λ (s : ℕ). s < length day.stations) (All-head (λ (row : WishRow). row.depot ≡ wish.depot) row rows depots) within
      where
        no_station : (r : List (List ℕ)) (row : WishRow) → SpellsWish day r row → Station
        no_station r row spells = some_station day.stations row.depot spells.depot.found
          where
            some_station : (stations : List Station) (s : ℕ) → find_name (λ station. station.name) stations (field r 1) ≡ Some s → Station
            some_station [] s found = absurd cc
            some_station (station ∷ stations) s found = station

-- ---- the station of a name

pub named_station : (day : Day) (text name : List ℕ) (found : Option ℕ) → name ≡ text → IsUtf8 text → found ≡ find_name (λ station. station.name) day.stations name
    → MatchOption found ((s : ℕ) → ¬ NamesStation day text s) (λ s. NamesStation day text s)
named_station day text name None same utf8 is = λ s names. none_some (is ∙ ap (λ t. find_name (λ station. station.name) day.stations t) same ∙ names.found)
  where
    none_some : {s : ℕ} → None ≡ Some s → ⊥
    none_some e = absurd cc
named_station day text name (Some s) same utf8 is = record { utf8 = utf8; found = sym (is ∙ ap (λ t. find_name (λ station. station.name) day.stations t) same) }

-- ---- the first row

pub no_first : (rows : List WishRow) → None ≡ slice_get rows 0 → rows ≡ []
no_first [] none = refl
no_first (row ∷ rows) none = absurd cc

pub type_is : (day : Day) (u : ℕ) (x : unit.Unit) → slice_get (units_of day) u ≡ Some x → type_of day u ≡ x.unit_type
unfolding type_of
type_is day u x e = ap (λ (o : Option unit.Unit). unwrap_or (option_map (λ (x : unit.Unit). x.unit_type) o) 0) e
