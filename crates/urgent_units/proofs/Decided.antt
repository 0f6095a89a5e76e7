-- A table of urgent units says one wish, or it is refused.
use Rattle.std.proofs.Common.{◌≡◌, ℕ, ◌+◌, List, [], ◌∷◌, ◌++◌, length, map, refl, sym, ap, ◌∙◌, subst, arith, get_or}
use Rattle.std.specs.List.{All, AllPairs, AllZip}
use Rattle.std.proofs.lemmas.List.{append_assoc, get_or_append_left, length-append}
use Rattle.std.proofs.lemmas.List.Elements.{All-head}
use Rattle.timetable.specs.Day.{Day, type_of}
use Rattle.urgent_units.specs.declared.refusal.WishRefusal.{WishRefusal}
use Rattle.urgent_units.specs.declared.refusal.WishRefusal.TheVariants.{WrongHeader, BadRow, NoRow, NoMemory}
use Rattle.urgent_units.specs.declared.wish.Wish.{Wish}
use Rattle.urgent_units.specs.declared.wish.WishRow.{WishRow}
use Rattle.urgent_units.specs.Laws.{TablesAreDecided}
use Rattle.urgent_units.specs.Wishes.{AreRight, GoTogether, HasRecords, IsFirstBad, IsWishOf, IsWishRefusal, SpellsWish, wish_header}
use Rattle.urgent_units.proofs.WishRows.{no_records, same_rows}

-- ---- the front of a list

-- two lists, place by place: the front of the one goes with a front of the other
record HasFront {A B : Type 0} (R : A → B → Type 0) (xs : List A) (zs : List B) : Type 0 where
  front : List B
  back : List B
  parts : zs ≡ front ++ back
  each : AllZip R xs front

zip_front : {A B : Type 0} (R : A → B → Type 0) (xs ys : List A) (zs : List B) → AllZip R (xs ++ ys) zs → HasFront R xs zs
zip_front R [] ys zs zip = record { front = []; back = zs; parts = refl; each = tt }
zip_front R (x ∷ xs) ys [] zip = absurd zip
zip_front R (x ∷ xs) ys (z ∷ zs) zip =
    let r = zip_front R xs ys zs zip.1 in
    record { front = z ∷ r.front; back = r.back; parts = ap (λ (zs : List _). z ∷ zs) r.parts; each = (zip.0, r.each) }

-- what holds of each two holds of each two of the front
pairs_front_of : {X : Type 0} (R : X → X → Type 0) (xs ys : List X) → AllPairs R (xs ++ ys) → AllPairs R xs
pairs_front_of {X} R xs ys pairs i j d order below =
    let wide : length (xs ++ ys) ≡ length xs + length ys = length-append xs ys in
    subst (λ (a : X). R a (get_or xs j d)) (get_or_append_left xs ys d i (omega (arith, order, below)))
    (subst (λ (b : X). R (get_or (xs ++ ys) i d) b) (get_or_append_left xs ys d j below) (pairs i j d order (omega (arith, wide, below))))

right_front : (day : Day) (before others : List (List (List ℕ))) (rows : List WishRow) → AreRight day (before ++ others) rows
    → (front : List WishRow) × AreRight day before front
right_front day before others rows right =
    let r = zip_front (SpellsWish day) before others rows right.each in (
      r.front,
      record {
        each = r.each;
        together = pairs_front_of (GoTogether day) r.front r.back (subst (λ (rs : List WishRow). AllPairs (GoTogether day) rs) r.parts right.together);
      },
    )

-- ---- a table that says a wish is not refused

never_bad : (day : Day) (records : List (List (List ℕ))) (rows : List WishRow) (number : ℕ) → AreRight day records rows
    → IsFirstBad day records number → ⊥
never_bad day records rows number right bad =
    let parts : records ≡ (bad.before ++ bad.bad ∷ []) ++ bad.others = bad.parts ∙ sym (append_assoc bad.before (bad.bad ∷ []) bad.others) in
    let front = right_front day (bad.before ++ bad.bad ∷ []) bad.others rows (subst (λ (rs : List (List (List ℕ))). AreRight day rs rows) parts right) in
    bad.wrong front.0 front.1

same_records : (bytes : List ℕ) (one other : List (List (List ℕ))) → HasRecords bytes one → HasRecords bytes other → one ≡ other
same_records bytes one other first second =
    let both : wish_header ∷ one ≡ wish_header ∷ other = sym first ∙ second in cc

not_refused : (day : Day) (bytes : List ℕ) (wish : Wish) (refusal : WishRefusal) → IsWishOf day bytes wish → IsWishRefusal day bytes refusal
    → refusal ≡ NoMemory
not_refused day bytes wish WrongHeader is wrong = absurd (wrong is.records is.table)
not_refused day bytes wish (BadRow number) is wrong =
    absurd (never_bad day is.records is.rows number is.right
    (subst (λ (rs : List (List (List ℕ))). IsFirstBad day rs number) (same_records bytes wrong.0 is.records wrong.1 is.table) wrong.2))
not_refused day bytes wish NoRow is none =
    let empty : is.records ≡ [] = same_records bytes is.records [] is.table none in
    let few : length is.records ≡ 0 = ap length empty in absurd (omega (arith, is.some, few))
not_refused day bytes wish NoMemory is wrong = refl

-- ---- and says one

alike : (m m' s s' : ℕ) (us us' : List ℕ) → m ≡ m' → s ≡ s' → us ≡ us'
    → ◌≡◌ {A = Wish} (record { unit_type = m; depot = s; units = us }) (record { unit_type = m'; depot = s'; units = us' })
alike m m' s s' us us' types depots units = cc

one_wish : (day : Day) (bytes : List ℕ) (wish other : Wish) → IsWishOf day bytes wish → IsWishOf day bytes other → wish ≡ other
one_wish day bytes wish other one two = by one.rows refl
  where
    records : two.records ≡ one.records
    records = same_records bytes two.records one.records two.table one.table

    rows : one.rows ≡ two.rows
    rows = same_rows day one.records one.rows two.rows one.right.each
        (subst (λ (rs : List (List (List ℕ))). AllZip (SpellsWish day) rs two.rows) records two.right.each)

    by : (all : List WishRow) → one.rows ≡ all → wish ≡ other
    by [] none =
        let empty : length one.records ≡ 0 = ap length (no_records day one.records one.rows one.right none) in
        absurd (omega (arith, one.some, empty))
    by (row ∷ others) all =
        let mine = subst (λ (rs : List WishRow). All (λ row. type_of day row.unit ≡ wish.unit_type) rs) all one.unit_type in
        let theirs = subst (λ (rs : List WishRow). All (λ row. type_of day row.unit ≡ other.unit_type) rs) (sym rows ∙ all) two.unit_type in
        let at = subst (λ (rs : List WishRow). All (λ row. row.depot ≡ wish.depot) rs) all one.depot in
        let there = subst (λ (rs : List WishRow). All (λ row. row.depot ≡ other.depot) rs) (sym rows ∙ all) two.depot in
        alike wish.unit_type other.unit_type wish.depot other.depot wish.units other.units
        (sym (All-head (λ (row : WishRow). type_of day row.unit ≡ wish.unit_type) row others mine)
        ∙ All-head (λ (row : WishRow). type_of day row.unit ≡ other.unit_type) row others theirs)
        (sym (All-head (λ (row : WishRow). row.depot ≡ wish.depot) row others at) ∙ All-head (λ (row : WishRow). row.depot ≡ other.depot) row others there)
        (one.units ∙ ap (map (λ row. row.unit)) rows ∙ sym two.units)

pub tables_are_decided : TablesAreDecided
tables_are_decided day bytes = record { one = one_wish day bytes; refused = not_refused day bytes }
