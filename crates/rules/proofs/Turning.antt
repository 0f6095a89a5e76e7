-- What a turn keeps: the longest list of types that fits.
use Rattle.std.proofs.Common.{◌≡◌, ℕ, zero, suc, ◌+◌, ◌-◌, ◌<◌, ◌≤◌, List, [], ◌∷◌, ◌++◌, length, take, drop, map, Bool}
use Rattle.std.proofs.Common.{true, false, Option, Some, None, inl, inr, ⊎_elim, refl, sym, ap, subst, ◌∙◌, arith}
use Rattle.std.proofs.Common.{length-append, length-take, length-drop}
use Rattle.std.specs.Prelude.{option_and_then, ◌&&◌}
use Rattle.std.proofs.lemmas.Bool.{and_parts, and_from, leb-true, le-leb, eqb-true, eq-eqb, cond-true, cond-false}
use Rattle.std.proofs.lemmas.Bool.{false≢true, cases_Bool, cases_lt}
use Rattle.std.proofs.lemmas.List.{take-append-drop, length-map, take-map, drop-map, map-id}
use Rattle.std.proofs.lemmas.Slice.Eq.{bytes_eq-Decides}
use Rattle.std.proofs.Math.Seq.{take-append_seam, drop-append_seam}
use Rattle.rules.specs.declared.records.End.{End}
use Rattle.rules.specs.declared.records.End.TheVariants as at
use Rattle.rules.specs.declared.records.LinkKind.{LinkKind}
use Rattle.rules.specs.declared.records.LinkKind.TheVariants.{Turn, Join, Split}
use Rattle.rules.specs.Lists.{count_of}
use Rattle.rules.specs.Turns.{IsWithout, Fits, IsKeptList, IsKeptCount, IsKept, kept_of, Parts, same, may_stay}
use Rattle.rules.specs.Turns.{staying, beyond, fits_at, greatest, kept_length, may_shunt, parts_at, turn_parts}

-- ---- what stays at an end

-- what stays is what the whole is without the rest of it, and is as long as said
pub record Stays (end : End) (whole : List ℕ) (n : ℕ) : Type 0 where
  pub without : IsWithout end whole (staying end whole n)
  pub long : length (staying end whole n) ≡ n
  pub within : n ≤ length whole

pub stays : (end : End) (whole : List ℕ) (n : ℕ) → may_stay end (length whole) n ≡ true → Stays end whole n
stays at.None whole n may = let e : n ≡ length whole = eqb-true n (length whole) may in record { without = refl; long = sym e; within = omega (arith, e) }
stays at.Rear whole n may =
    let short : n ≤ length whole = leb-true n (length whole) may in
    record { without = (drop n whole, take-append-drop n whole); long = omega (arith, length-take n whole); within = short }
stays at.Front whole n may =
    let short : n ≤ length whole = leb-true n (length whole) may in
    record { without = (take (length whole - n) whole, take-append-drop (length whole - n) whole); long = omega (arith, length-drop (length whole - n) whole); within = short }

-- a list that is the whole without some of it is what stays when its length stays
pub record IsStaying (end : End) (whole part : List ℕ) : Type 0 where
  pub may : may_stay end (length whole) (length part) ≡ true
  pub is : staying end whole (length part) ≡ part
  pub within : length part ≤ length whole

pub is_staying : (end : End) (whole part : List ℕ) → IsWithout end whole part → IsStaying end whole part
is_staying at.None whole part e = record { may = eq-eqb (length part) (length whole) (ap length e); is = sym e; within = omega (arith, ap length e) }
is_staying at.Rear whole part (gone, e) =
    let long : length part + length gone ≡ length whole = sym (length-append part gone) ∙ ap length e in
    record {
      may = le-leb (length part) (length whole) (omega arith);
      is = ap (take (length part)) (sym e) ∙ take-append_seam part gone;
      within = omega arith;
    }
is_staying at.Front whole part (gone, e) =
    let long : length gone + length part ≡ length whole = sym (length-append gone part) ∙ ap length e in
    let more : length whole - length part ≡ length gone = omega arith in
    record {
      may = le-leb (length part) (length whole) (omega arith);
      is = ap (λ (n : ℕ). drop n whole) more ∙ ap (drop (length gone)) (sym e) ∙ drop-append_seam gone part;
      within = omega arith;
    }

-- ---- the greatest number that passes

pub record IsGreatest (test : ℕ → Bool) (bound n : ℕ) : Type 0 where
  pub some : 1 ≤ n
  pub within : n ≤ bound
  pub passes : test n ≡ true
  pub others : (k : ℕ) → n < k → k ≤ bound → test k ≡ false

pub greatest-some : (test : ℕ → Bool) (bound n : ℕ) → greatest test bound ≡ Some n → IsGreatest test bound n
greatest-some test zero n e = absurd (cc)
greatest-some test (suc b) n e = elim (cases_Bool (test (suc b))) [
  | inl passes ↦
      let is : suc b ≡ n = let found = sym (cond-true (test (suc b)) (Some (suc b)) (greatest test b) passes) ∙ e in cc in
      subst (IsGreatest test (suc b)) is (record { some = omega arith; within = omega arith; passes = passes; others = λ k above below. absurd (omega arith) })
  | inr fails ↦
      let before = greatest-some test b n (sym (cond-false (test (suc b)) (Some (suc b)) (greatest test b) fails) ∙ e) in
      record {
        some = before.some;
        within = omega (arith, before.within);
        passes = before.passes;
        others = λ k above below. ⊎_elim (λ (h : k < suc b). before.others k above (omega arith))
            (λ (h : suc b ≤ k). let is : suc b ≡ k = omega arith in subst (λ (m : ℕ). test m ≡ false) is fails) (cases_lt k (suc b));
      }
]

pub greatest-none : (test : ℕ → Bool) (bound : ℕ) → greatest test bound ≡ None → (k : ℕ) → 1 ≤ k → k ≤ bound → test k ≡ false
greatest-none test zero e k some within = absurd (omega arith)
greatest-none test (suc b) e k some within = elim (cases_Bool (test (suc b))) [
  | inl passes ↦ let found = sym (cond-true (test (suc b)) (Some (suc b)) (greatest test b) passes) ∙ e in absurd (cc)
  | inr fails ↦
      ⊎_elim (λ (h : k < suc b). greatest-none test b (sym (cond-false (test (suc b)) (Some (suc b)) (greatest test b) fails) ∙ e) k some (omega arith))
      (λ (h : suc b ≤ k). let is : suc b ≡ k = omega arith in subst (λ (m : ℕ). test m ≡ false) is fails) (cases_lt k (suc b))
]

-- a number that fails is passed over
pub greatest-less : (test : ℕ → Bool) (n : ℕ) → 0 < n → test n ≡ false → greatest test n ≡ greatest test (n - 1)
greatest-less test zero some fails = absurd (omega arith)
greatest-less test (suc n) some fails =
    let less : suc n - 1 ≡ n = omega arith in
    cond-false (test (suc n)) (Some (suc n)) (greatest test n) fails ∙ ap (greatest test) (sym less)

-- ---- the kept list

module _ (uncouple couple : End) (arriving departing : List ℕ) where
  -- a list that fits is found by its length
  found : (types : List ℕ) → Fits uncouple couple arriving departing types → fits_at uncouple couple arriving departing (length types) ≡ true
  found types fits =
      let off = is_staying uncouple arriving types fits.uncoupled in
      let on = is_staying couple departing types fits.coupled in
      and_from _ _ (and_from _ _ off.may on.may) ((bytes_eq-Decides (staying uncouple arriving (length types)) (staying couple departing (length types))).1 (off.is ∙ sym on.is))

  -- the kept list is found exactly so
  pub kept-is : (n : ℕ) → kept_length uncouple couple arriving departing ≡ Some n
      → IsKeptList uncouple couple arriving departing (staying uncouple arriving n) × (length (staying uncouple arriving n) ≡ n) × (staying couple departing n ≡ staying uncouple arriving n)
  unfolding kept_length
  kept-is n e =
      let is = greatest-some (fits_at uncouple couple arriving departing) (length arriving) n e in
      let tests = and_parts (may_stay uncouple (length arriving) n && may_stay couple (length departing) n) (same (staying uncouple arriving n) (staying couple departing n)) is.passes in
      let ends = and_parts (may_stay uncouple (length arriving) n) (may_stay couple (length departing) n) tests.0 in
      let off = stays uncouple arriving n ends.0 in
      let on = stays couple departing n ends.1 in
      let one : staying uncouple arriving n ≡ staying couple departing n = (bytes_eq-Decides (staying uncouple arriving n) (staying couple departing n)).0 tests.1 in (
        record {
          fits = record { some = omega (arith, off.long, is.some); uncoupled = off.without; coupled = subst (IsWithout couple departing) (sym one) on.without };
          longest = λ other fits. ⊎_elim
              (λ (h : n < length other).
              let off' = is_staying uncouple arriving other fits.uncoupled in
              absurd (false≢true (sym (is.others (length other) h off'.within) ∙ found other fits)))
              (λ (h : length other ≤ n). omega (arith, off.long)) (cases_lt n (length other));
        },
        off.long,
        sym one,
      )

  pub kept-none : kept_length uncouple couple arriving departing ≡ None → (types : List ℕ) → Fits uncouple couple arriving departing types → ⊥
  unfolding kept_length
  kept-none e types fits =
      let off = is_staying uncouple arriving types fits.uncoupled in
      false≢true (sym (greatest-none (fits_at uncouple couple arriving departing) (length arriving) e (length types) fits.some off.within) ∙ found types fits)

-- the number of the kept list is that of the longest list that fits
pub kept_count-is : (uncouple couple : End) (arriving departing : List ℕ) → IsKeptCount uncouple couple arriving departing (kept_length uncouple couple arriving departing)
kept_count-is uncouple couple arriving departing = on (kept_length uncouple couple arriving departing) refl
  where
    on : (o : Option ℕ) → kept_length uncouple couple arriving departing ≡ o → IsKeptCount uncouple couple arriving departing o
    on None e = kept-none uncouple couple arriving departing e
    on (Some n) e = let is = kept-is uncouple couple arriving departing n e in (staying uncouple arriving n, is.0, is.1)

pub kept_of-is : (kind : LinkKind) (arriving departing : List ℕ) → IsKept kind arriving departing (kept_of kind arriving departing)
kept_of-is (Turn a b uncouple couple exchange) arriving departing = kept_count-is uncouple couple arriving departing
kept_of-is (Join a1 a2 b) arriving departing = refl
kept_of-is (Split a b1 b2) arriving departing = refl

-- ---- the parts

-- the parts are what stays and what goes at a number, at which the same units stay and no more are shunted than may be
pub record ArePartsAt (uncouple couple : End) (exchange : Bool) (arriving departing : List ℕ) (parts : Parts) (n : ℕ) : Type 0 where
  pub one : staying uncouple arriving n ≡ staying couple departing n
  pub few : may_shunt exchange (length arriving - n) (length departing - n) ≡ true
  pub are : parts ≡ record { kept = staying uncouple arriving n; given = beyond uncouple arriving n; taken = beyond couple departing n }

pub parts_at-some : (uncouple couple : End) (exchange : Bool) (arriving departing : List ℕ) (parts : Parts) (n : ℕ)
    → parts_at uncouple couple exchange arriving departing n ≡ Some parts → ArePartsAt uncouple couple exchange arriving departing parts n
parts_at-some uncouple couple exchange arriving departing parts n e =
    elim (cases_Bool (same (staying uncouple arriving n) (staying couple departing n) && may_shunt exchange (length arriving - n) (length departing - n))) [
      | inl test ↦
          let both = and_parts (same (staying uncouple arriving n) (staying couple departing n)) (may_shunt exchange (length arriving - n) (length departing - n)) test in
          let is : Some (record { kept = staying uncouple arriving n; given = beyond uncouple arriving n; taken = beyond couple departing n }) ≡ Some parts =
          sym (cond-true (same (staying uncouple arriving n) (staying couple departing n) && may_shunt exchange (length arriving - n) (length departing - n)) _ None test) ∙ e in
          record { one = (bytes_eq-Decides (staying uncouple arriving n) (staying couple departing n)).0 both.0; few = both.1; are = let are' : parts ≡ record { kept = staying uncouple arriving n; given = beyond uncouple arriving n; taken = beyond couple departing n } = cc in are' }
      | inr fails ↦
          let none : None ≡ Some parts = sym (cond-false (same (staying uncouple arriving n) (staying couple departing n) && may_shunt exchange (length arriving - n) (length departing - n)) (Some (record { kept = staying uncouple arriving n; given = beyond uncouple arriving n; taken = beyond couple departing n })) None fails) ∙ e in absurd (cc)
    ]

pub parts_at-is : (uncouple couple : End) (exchange : Bool) (arriving departing : List ℕ) (n : ℕ)
    → staying uncouple arriving n ≡ staying couple departing n → may_shunt exchange (length arriving - n) (length departing - n) ≡ true
    → parts_at uncouple couple exchange arriving departing n ≡ Some (record { kept = staying uncouple arriving n; given = beyond uncouple arriving n; taken = beyond couple departing n })
parts_at-is uncouple couple exchange arriving departing n one few =
    cond-true (same (staying uncouple arriving n) (staying couple departing n) && may_shunt exchange (length arriving - n) (length departing - n)) _ None
    (and_from _ _ ((bytes_eq-Decides (staying uncouple arriving n) (staying couple departing n)).1 one) few)

-- the number of the kept list, and the parts at it
pub record ArePartsOf (type_of : ℕ → ℕ) (uncouple couple : End) (exchange : Bool) (arriving departing : List ℕ) (parts : Parts) : Type 0 where
  pub number : ℕ
  pub kept : kept_length uncouple couple (map type_of arriving) (map type_of departing) ≡ Some number
  pub parts_at : ArePartsAt uncouple couple exchange arriving departing parts number

pub turn_parts-some : (type_of : ℕ → ℕ) (uncouple couple : End) (exchange : Bool) (arriving departing : List ℕ) (parts : Parts)
    → turn_parts type_of uncouple couple exchange arriving departing ≡ Some parts → ArePartsOf type_of uncouple couple exchange arriving departing parts
unfolding turn_parts
turn_parts-some type_of uncouple couple exchange arriving departing parts e = on (kept_length uncouple couple (map type_of arriving) (map type_of departing)) refl e
  where
    on : (o : Option ℕ) → kept_length uncouple couple (map type_of arriving) (map type_of departing) ≡ o
        → option_and_then (parts_at uncouple couple exchange arriving departing) o ≡ Some parts → ArePartsOf type_of uncouple couple exchange arriving departing parts
    on None is some = absurd (cc)
    on (Some n) is some = record { number = n; kept = is; parts_at = parts_at-some uncouple couple exchange arriving departing parts n some }

pub turn_parts-is : (type_of : ℕ → ℕ) (uncouple couple : End) (exchange : Bool) (arriving departing : List ℕ) (n : ℕ)
    → kept_length uncouple couple (map type_of arriving) (map type_of departing) ≡ Some n
    → turn_parts type_of uncouple couple exchange arriving departing ≡ parts_at uncouple couple exchange arriving departing n
unfolding turn_parts
turn_parts-is type_of uncouple couple exchange arriving departing n e = ap (option_and_then (parts_at uncouple couple exchange arriving departing)) e

-- ---- the rule on units is the rule on their types

pub staying-map : {X : Type 0} (f : X → ℕ) (end : End) (xs : List X) (n : ℕ) → staying end (map f xs) n ≡ map f (staying end xs n)
staying-map f at.None xs n = refl
staying-map f at.Rear xs n = take-map f n xs
staying-map f at.Front xs n = ap (λ (k : ℕ). drop (k - n) (map f xs)) (length-map xs f) ∙ drop-map f (length xs - n) xs

pub beyond-map : {X : Type 0} (f : X → ℕ) (end : End) (xs : List X) (n : ℕ) → beyond end (map f xs) n ≡ map f (beyond end xs n)
beyond-map f at.None xs n = refl
beyond-map f at.Rear xs n = drop-map f n xs
beyond-map f at.Front xs n = ap (λ (k : ℕ). take (k - n) (map f xs)) (length-map xs f) ∙ take-map f (length xs - n) xs

abbrev pub map_parts : (ℕ → ℕ) → Parts → Parts
map_parts f parts = record { kept = map f parts.kept; given = map f parts.given; taken = map f parts.taken }

-- the parts of a turn of units are, under other numbers, those of the turn of the units that have these, where the types
-- are the same
pub turn_parts-renumbered : (f type_of other_type : ℕ → ℕ) (uncouple couple : End) (exchange : Bool) (arriving departing : List ℕ) (parts : Parts)
    → map other_type (map f arriving) ≡ map type_of arriving → map other_type (map f departing) ≡ map type_of departing
    → turn_parts type_of uncouple couple exchange arriving departing ≡ Some parts
    → turn_parts other_type uncouple couple exchange (map f arriving) (map f departing) ≡ Some (map_parts f parts)
turn_parts-renumbered f type_of other_type uncouple couple exchange arriving departing parts arrive depart e =
    let of = turn_parts-some type_of uncouple couple exchange arriving departing parts e in
    let kept : kept_length uncouple couple (map other_type (map f arriving)) (map other_type (map f departing)) ≡ Some of.number =
    ap (λ (xs : List ℕ). kept_length uncouple couple xs (map other_type (map f departing))) arrive
    ∙ ap (λ (xs : List ℕ). kept_length uncouple couple (map type_of arriving) xs) depart ∙ of.kept in
    let one : staying uncouple (map f arriving) of.number ≡ staying couple (map f departing) of.number =
    staying-map f uncouple arriving of.number ∙ ap (map f) of.parts_at.one ∙ sym (staying-map f couple departing of.number) in
    let few : may_shunt exchange (length (map f arriving) - of.number) (length (map f departing) - of.number) ≡ true =
    subst (λ (k : ℕ). may_shunt exchange (k - of.number) (length (map f departing) - of.number) ≡ true) (sym (length-map arriving f))
    (subst (λ (k : ℕ). may_shunt exchange (length arriving - of.number) (k - of.number) ≡ true) (sym (length-map departing f)) of.parts_at.few) in
    turn_parts-is other_type uncouple couple exchange (map f arriving) (map f departing) of.number kept
    ∙ parts_at-is uncouple couple exchange (map f arriving) (map f departing) of.number one few
    ∙ ap (λ (us : List ℕ). Some (record { kept = us; given = beyond uncouple (map f arriving) of.number; taken = beyond couple (map f departing) of.number })) (staying-map f uncouple arriving of.number)
    ∙ ap (λ (us : List ℕ). Some (record { kept = map f (staying uncouple arriving of.number); given = us; taken = beyond couple (map f departing) of.number })) (beyond-map f uncouple arriving of.number)
    ∙ ap (λ (us : List ℕ). Some (record { kept = map f (staying uncouple arriving of.number); given = map f (beyond uncouple arriving of.number); taken = us })) (beyond-map f couple departing of.number)
    ∙ ap (λ (p : Parts). Some (map_parts f p)) (sym of.parts_at.are)

-- they are, by types, those of the turn of their types
pub turn_parts-map : (f : ℕ → ℕ) (uncouple couple : End) (exchange : Bool) (arriving departing : List ℕ) (parts : Parts)
    → turn_parts f uncouple couple exchange arriving departing ≡ Some parts
    → turn_parts (λ (m : ℕ). m) uncouple couple exchange (map f arriving) (map f departing) ≡ Some (map_parts f parts)
turn_parts-map f uncouple couple exchange arriving departing parts e =
    turn_parts-renumbered f f (λ (m : ℕ). m) uncouple couple exchange arriving departing parts (map-id (map f arriving)) (map-id (map f departing)) e

-- ---- counts

pub count_of-append : (u : ℕ) (xs ys : List ℕ) → count_of u (xs ++ ys) ≡ count_of u xs + count_of u ys
count_of-append u [] ys = omega arith
count_of-append u (x ∷ xs) ys = let ih = count_of-append u xs ys in omega arith

-- what stays and what goes are the whole
pub staying_counts : (u : ℕ) (end : End) (xs : List ℕ) (n : ℕ) → count_of u xs ≡ count_of u (staying end xs n) + count_of u (beyond end xs n)
staying_counts u at.None xs n = omega arith
staying_counts u at.Rear xs n = ap (count_of u) (sym (take-append-drop n xs)) ∙ count_of-append u (take n xs) (drop n xs)
staying_counts u at.Front xs n =
    let cut = ap (count_of u) (sym (take-append-drop (length xs - n) xs)) ∙ count_of-append u (take (length xs - n) xs) (drop (length xs - n) xs) in omega arith

pub record Shares (arriving departing : List ℕ) (parts : Parts) : Type 0 where
  pub arrives : (u : ℕ) → count_of u arriving ≡ count_of u parts.kept + count_of u parts.given
  pub departs : (u : ℕ) → count_of u departing ≡ count_of u parts.kept + count_of u parts.taken

-- at a turn, what arrives is kept or given, and what departs was kept or is taken
pub parts_shares : (type_of : ℕ → ℕ) (uncouple couple : End) (exchange : Bool) (arriving departing : List ℕ) (parts : Parts)
    → turn_parts type_of uncouple couple exchange arriving departing ≡ Some parts → Shares arriving departing parts
parts_shares type_of uncouple couple exchange arriving departing parts e =
    let of = turn_parts-some type_of uncouple couple exchange arriving departing parts e in
    subst (Shares arriving departing) (sym of.parts_at.are) (record {
      arrives = λ u. staying_counts u uncouple arriving of.number;
      departs = λ u. let counts = staying_counts u couple departing of.number in let one = ap (count_of u) of.parts_at.one in omega arith;
    })
