-- Where no list is empty, a turn without exchange is one of three: all units stay, or some go, or some come.
use Rattle.std.proofs.Common.{◌≡◌, ℕ, ◌-◌, ◌<◌, ◌≤◌, List, [], ◌++◌, length, take, drop, map, true, false, Option, Some}
use Rattle.std.proofs.Common.{None, inl, inr, ◌⊎◌, ⊎_elim, refl, sym, ap, subst, ◌∙◌, arith}
use Rattle.std.specs.Prelude.{option_and_then, nat_le, nat_lt, ◌&&◌, ◌==◌, ◌||◌}
use Rattle.std.proofs.lemmas.Bool.{and_parts, and_from, or_cases, or_left, or_right, leb-true, le-leb, ltb-true, lt-ltb}
use Rattle.std.proofs.lemmas.Bool.{eqb-true, eq-eqb, cond-true, cond-false, false≢true, cases_Bool, cases_lt}
use Rattle.std.proofs.lemmas.List.{length-map, take-append-drop, map-append, append-nil}
use Rattle.std.proofs.lemmas.Slice.Eq.{bytes_eq-Decides}
use Rattle.std.proofs.Math.Seq.{drop-length}
use Rattle.rules.specs.declared.records.End.{End}
use Rattle.rules.specs.declared.records.End.TheVariants as at
use Rattle.timetable.specs.Turns.{IsWithout, Fits, Parts, same, may_stay, staying, beyond, kept_length, may_shunt}
use Rattle.timetable.specs.Turns.{parts_at, turn_parts}
use Rattle.timetable.specs.TurnsWithoutExchange.{is_left_of, gone_of, plain_parts, IsPlainTurn}
use Rattle.rules.proofs.Turning.{is_staying, kept-is, kept-none}

same_is : (xs ys : List ℕ) → same xs ys ≡ true → xs ≡ ys
same_is xs ys e = (bytes_eq-Decides xs ys).0 e

is_same : (xs ys : List ℕ) → xs ≡ ys → same xs ys ≡ true
is_same xs ys e = (bytes_eq-Decides xs ys).1 e

-- the whole is what it is without nothing
whole : (end : End) (xs : List ℕ) → IsWithout end xs xs
whole at.None xs = refl
whole at.Rear xs = ([], append-nil xs)
whole at.Front xs = ([], refl)

map_without : (f : ℕ → ℕ) (end : End) (xs part : List ℕ) → IsWithout end xs part → IsWithout end (map f xs) (map f part)
map_without f at.None xs part e = ap (map f) e
map_without f at.Rear xs part (gone, e) = (map f gone, sym (map-append f part gone) ∙ ap (map f) e)
map_without f at.Front xs part (gone, e) = (map f gone, sym (map-append f gone part) ∙ ap (map f) e)

-- what is left after one or more went
pub record Left (end : End) (xs part : List ℕ) : Type 0 where
  pub some : 1 ≤ length part
  pub shorter : length part < length xs
  pub is : staying end xs (length part) ≡ part
  pub without : IsWithout end xs part

left_is : (end : End) (xs part : List ℕ) → is_left_of end xs part ≡ true → Left end xs part
left_is at.None xs part e = absurd (false≢true e)
left_is at.Rear xs part e =
    let both = and_parts (nat_le 1 (length part) && nat_lt (length part) (length xs)) (same (take (length part) xs) part) e in
    let sizes = and_parts (nat_le 1 (length part)) (nat_lt (length part) (length xs)) both.0 in
    let is : take (length part) xs ≡ part = same_is (take (length part) xs) part both.1 in
    record {
      some = leb-true 1 (length part) sizes.0;
      shorter = ltb-true (length part) (length xs) sizes.1;
      is = is;
      without = (drop (length part) xs, subst (λ (ys : List ℕ). ys ++ drop (length part) xs ≡ xs) is (take-append-drop (length part) xs));
    }
left_is at.Front xs part e =
    let both = and_parts (nat_le 1 (length part) && nat_lt (length part) (length xs)) (same (drop (length xs - length part) xs) part) e in
    let sizes = and_parts (nat_le 1 (length part)) (nat_lt (length part) (length xs)) both.0 in
    let is : drop (length xs - length part) xs ≡ part = same_is (drop (length xs - length part) xs) part both.1 in
    record {
      some = leb-true 1 (length part) sizes.0;
      shorter = ltb-true (length part) (length xs) sizes.1;
      is = is;
      without = (take (length xs - length part) xs, subst (λ (ys : List ℕ). take (length xs - length part) xs ++ ys ≡ xs) is (take-append-drop (length xs - length part) xs));
    }

is_left : (end : End) (xs part : List ℕ) → may_stay end (length xs) (length part) ≡ true → 1 ≤ length part → length part < length xs → staying end xs (length part) ≡ part → is_left_of end xs part ≡ true
is_left at.None xs part may some shorter is = let e : length part ≡ length xs = eqb-true (length part) (length xs) may in absurd (omega arith)
is_left at.Rear xs part may some shorter is =
    and_from _ _ (and_from _ _ (le-leb 1 (length part) some) (lt-ltb (length part) (length xs) shorter)) (is_same (take (length part) xs) part is)
is_left at.Front xs part may some shorter is =
    and_from _ _ (and_from _ _ (le-leb 1 (length part) some) (lt-ltb (length part) (length xs) shorter)) (is_same (drop (length xs - length part) xs) part is)

-- where all stay, nothing goes
all_stay : (end : End) (xs : List ℕ) → staying end xs (length xs) ≡ xs
all_stay end xs = (is_staying end xs xs (whole end xs)).is

none_goes : (end : End) (xs : List ℕ) → beyond end xs (length xs) ≡ []
none_goes at.None xs = refl
none_goes at.Rear xs = drop-length xs
none_goes at.Front xs = ap (λ (n : ℕ). take n xs) (let none : length xs - length xs ≡ 0 = omega arith in none)

goes_is : (end : End) (xs part : List ℕ) → beyond end xs (length part) ≡ gone_of end xs part
goes_is at.None xs part = refl
goes_is at.Rear xs part = refl
goes_is at.Front xs part = refl

module _ (f : ℕ → ℕ) (uncouple couple : End) (arriving departing : List ℕ) where
  abbrev types_in : List ℕ
  types_in = map f arriving

  abbrev types_out : List ℕ
  types_out = map f departing

  -- what fits is as long as the kept list at most, which is as long as each of the two lists at most
  at_number : (n : ℕ) → kept_length uncouple couple types_in types_out ≡ Some n
      → turn_parts f uncouple couple false arriving departing ≡ parts_at uncouple couple false arriving departing n
  unfolding turn_parts
  at_number n e = ap (option_and_then (parts_at uncouple couple false arriving departing)) e

  at_none : kept_length uncouple couple types_in types_out ≡ None → turn_parts f uncouple couple false arriving departing ≡ None
  unfolding turn_parts
  at_none e = ap (option_and_then (parts_at uncouple couple false arriving departing)) e

  -- a list that fits and is as long as the arriving or the departing one is the kept one
  kept_of : (types : List ℕ) → Fits uncouple couple types_in types_out types → (length types ≡ length arriving) ⊎ (length types ≡ length departing)
      → kept_length uncouple couple types_in types_out ≡ Some (length types)
  kept_of types fits long = on (kept_length uncouple couple types_in types_out) refl
    where
      on : (o : Option ℕ) → kept_length uncouple couple types_in types_out ≡ o → o ≡ Some (length types)
      on None e = absurd (kept-none uncouple couple types_in types_out e types fits)
      on (Some n) e =
          let is = kept-is uncouple couple types_in types_out n e in
          let longest : length types ≤ length (staying uncouple types_in n) = is.0.longest types fits in
          let off = is_staying uncouple types_in (staying uncouple types_in n) is.0.fits.uncoupled in
          let on' = is_staying couple types_out (staying uncouple types_in n) is.0.fits.coupled in
          let one : n ≡ length types = ⊎_elim
          (λ (h : length types ≡ length arriving). omega (arith, is.1, off.within, longest, length-map arriving f))
          (λ (h : length types ≡ length departing). omega (arith, is.1, on'.within, longest, length-map departing f)) long in
          ap Some one

  -- the parts at a number, where the same units stay and one side shunts nothing
  parts_are : (n : ℕ) → staying uncouple arriving n ≡ staying couple departing n → (length arriving - n ≡ 0) ⊎ (length departing - n ≡ 0)
      → parts_at uncouple couple false arriving departing n ≡ Some (record { kept = staying uncouple arriving n; given = beyond uncouple arriving n; taken = beyond couple departing n })
  parts_are n one none =
      cond-true (same (staying uncouple arriving n) (staying couple departing n) && may_shunt false (length arriving - n) (length departing - n)) _ None
      (and_from _ _ (is_same (staying uncouple arriving n) (staying couple departing n) one)
      (or_left ((length arriving - n == 0) || (length departing - n == 0)) false
      (⊎_elim (λ (e : length arriving - n ≡ 0). or_left (length arriving - n == 0) (length departing - n == 0) (eq-eqb (length arriving - n) 0 e))
      (λ (e : length departing - n ≡ 0). or_right (length arriving - n == 0) (length departing - n == 0) (eq-eqb (length departing - n) 0 e)) none)))

  -- what the parts say where there are any
  pub record Holds (n : ℕ) : Type 0 where
    pub one : staying uncouple arriving n ≡ staying couple departing n
    pub none : (length arriving - n ≡ 0) ⊎ (length departing - n ≡ 0)

  holds : (n : ℕ) (parts : Parts) → parts_at uncouple couple false arriving departing n ≡ Some parts → Holds n
  holds n parts e = elim (cases_Bool (same (staying uncouple arriving n) (staying couple departing n) && may_shunt false (length arriving - n) (length departing - n))) [
    | inl test ↦
        let both = and_parts (same (staying uncouple arriving n) (staying couple departing n)) (may_shunt false (length arriving - n) (length departing - n)) test in
        let some = ⊎_elim (λ (h : ((length arriving - n == 0) || (length departing - n == 0)) ≡ true). h) (λ (h : false ≡ true). absurd (false≢true h))
        (or_cases ((length arriving - n == 0) || (length departing - n == 0)) false both.1) in
        record {
          one = same_is (staying uncouple arriving n) (staying couple departing n) both.0;
          none = ⊎_elim (λ (h : (length arriving - n == 0) ≡ true). inl (eqb-true (length arriving - n) 0 h))
              (λ (h : (length departing - n == 0) ≡ true). inr (eqb-true (length departing - n) 0 h)) (or_cases (length arriving - n == 0) (length departing - n == 0) some);
        }
    | inr fails ↦ let none : None ≡ Some parts = sym (cond-false (same (staying uncouple arriving n) (staying couple departing n) && may_shunt false (length arriving - n) (length departing - n)) (Some (record { kept = staying uncouple arriving n; given = beyond uncouple arriving n; taken = beyond couple departing n })) None fails) ∙ e in absurd (cc)
  ]

  -- ---- the three cases

  all_alike : 1 ≤ length arriving → arriving ≡ departing → turn_parts f uncouple couple false arriving departing ≡ Some (record { kept = arriving; given = []; taken = [] })
  all_alike some e =
      let fits : Fits uncouple couple types_in types_out types_in = record {
        some = omega (arith, length-map arriving f);
        uncoupled = whole uncouple types_in;
        coupled = subst (λ (ys : List ℕ). IsWithout couple (map f ys) types_in) e (whole couple types_in);
      } in
      let n : kept_length uncouple couple types_in types_out ≡ Some (length arriving) = kept_of types_in fits (inl (length-map arriving f)) ∙ ap Some (length-map arriving f) in
      let stays' : staying couple departing (length arriving) ≡ arriving = ap (λ (ys : List ℕ). staying couple ys (length arriving)) (sym e) ∙ all_stay couple arriving in
      let goes' : beyond couple departing (length arriving) ≡ [] = ap (λ (ys : List ℕ). beyond couple ys (length arriving)) (sym e) ∙ none_goes couple arriving in
      at_number (length arriving) n
      ∙ parts_are (length arriving) (all_stay uncouple arriving ∙ sym stays') (inl (omega arith))
      ∙ ap (λ (us : List ℕ). Some (record { kept = us; given = beyond uncouple arriving (length arriving); taken = beyond couple departing (length arriving) })) (all_stay uncouple arriving)
      ∙ ap (λ (us : List ℕ). Some (record { kept = arriving; given = us; taken = beyond couple departing (length arriving) })) (none_goes uncouple arriving)
      ∙ ap (λ (us : List ℕ). Some (record { kept = arriving; given = []; taken = us })) goes'

  some_go : Left uncouple arriving departing → turn_parts f uncouple couple false arriving departing ≡ Some (record { kept = departing; given = gone_of uncouple arriving departing; taken = [] })
  some_go left =
      let fits : Fits uncouple couple types_in types_out types_out = record {
        some = omega (arith, length-map departing f, left.some);
        uncoupled = map_without f uncouple arriving departing left.without;
        coupled = whole couple types_out;
      } in
      let n : kept_length uncouple couple types_in types_out ≡ Some (length departing) = kept_of types_out fits (inr (length-map departing f)) ∙ ap Some (length-map departing f) in
      at_number (length departing) n
      ∙ parts_are (length departing) (left.is ∙ sym (all_stay couple departing)) (inr (omega arith))
      ∙ ap (λ (us : List ℕ). Some (record { kept = us; given = beyond uncouple arriving (length departing); taken = beyond couple departing (length departing) })) left.is
      ∙ ap (λ (us : List ℕ). Some (record { kept = departing; given = beyond uncouple arriving (length departing); taken = us })) (none_goes couple departing)
      ∙ ap (λ (us : List ℕ). Some (record { kept = departing; given = us; taken = [] })) (goes_is uncouple arriving departing)

  some_come : Left couple departing arriving → turn_parts f uncouple couple false arriving departing ≡ Some (record { kept = arriving; given = []; taken = gone_of couple departing arriving })
  some_come left =
      let fits : Fits uncouple couple types_in types_out types_in = record {
        some = omega (arith, length-map arriving f, left.some);
        uncoupled = whole uncouple types_in;
        coupled = map_without f couple departing arriving left.without;
      } in
      let n : kept_length uncouple couple types_in types_out ≡ Some (length arriving) = kept_of types_in fits (inl (length-map arriving f)) ∙ ap Some (length-map arriving f) in
      at_number (length arriving) n
      ∙ parts_are (length arriving) (all_stay uncouple arriving ∙ sym left.is) (inl (omega arith))
      ∙ ap (λ (us : List ℕ). Some (record { kept = us; given = beyond uncouple arriving (length arriving); taken = beyond couple departing (length arriving) })) (all_stay uncouple arriving)
      ∙ ap (λ (us : List ℕ). Some (record { kept = arriving; given = us; taken = beyond couple departing (length arriving) })) (none_goes uncouple arriving)
      ∙ ap (λ (us : List ℕ). Some (record { kept = arriving; given = []; taken = us })) (goes_is couple departing arriving)

  -- no parts where none of the three is so
  no_parts : same arriving departing ≡ false → is_left_of uncouple arriving departing ≡ false → is_left_of couple departing arriving ≡ false
      → 1 ≤ length arriving → 1 ≤ length departing → turn_parts f uncouple couple false arriving departing ≡ None
  no_parts differ not_gone not_come some some' = on (kept_length uncouple couple types_in types_out) refl
    where
      none_at : (n : ℕ) → kept_length uncouple couple types_in types_out ≡ Some n → (o : Option Parts) → parts_at uncouple couple false arriving departing n ≡ o → o ≡ None
      none_at n e None is = refl
      none_at n e (Some parts) is =
          let h = holds n parts is in
          let kept = kept-is uncouple couple types_in types_out n e in
          let off = is_staying uncouple types_in (staying uncouple types_in n) kept.0.fits.uncoupled in
          let on' = is_staying couple types_out (staying uncouple types_in n) kept.0.fits.coupled in
          let short : n ≤ length arriving = omega (arith, off.within, kept.1, length-map arriving f) in
          let short' : n ≤ length departing = omega (arith, on'.within, kept.1, length-map departing f) in
          let may : may_stay uncouple (length arriving) n ≡ true =
          subst (λ (k : ℕ). may_stay uncouple k n ≡ true) (length-map arriving f) (subst (λ (k : ℕ). may_stay uncouple (length types_in) k ≡ true) kept.1 off.may) in
          let may' : may_stay couple (length departing) n ≡ true =
          subst (λ (k : ℕ). may_stay couple k n ≡ true) (length-map departing f) (subst (λ (k : ℕ). may_stay couple (length types_out) k ≡ true) kept.1 on'.may) in
          let go : n ≡ length departing → ⊥ = λ (e' : n ≡ length departing). ⊎_elim
          (λ (less : length departing < length arriving).
          let is' : staying uncouple arriving (length departing) ≡ departing =
          subst (λ (k : ℕ). staying uncouple arriving k ≡ staying couple departing k) e' h.one ∙ all_stay couple departing in
          false≢true (sym not_gone ∙ is_left uncouple arriving departing (subst (λ (k : ℕ). may_stay uncouple (length arriving) k ≡ true) e' may) some' less is'))
          (λ (more : length arriving ≤ length departing).
          let all : n ≡ length arriving = omega arith in
          let is' : arriving ≡ departing = sym (all_stay uncouple arriving) ∙ subst (λ (k : ℕ). staying uncouple arriving k ≡ staying couple departing n) all h.one
          ∙ ap (staying couple departing) e' ∙ all_stay couple departing in
          false≢true (sym differ ∙ is_same arriving departing is'))
          (cases_lt (length departing) (length arriving)) in
          let come : n ≡ length arriving → ⊥ = λ (e' : n ≡ length arriving). ⊎_elim
          (λ (less : length arriving < length departing).
          let is' : staying couple departing (length arriving) ≡ arriving =
          sym (subst (λ (k : ℕ). staying uncouple arriving k ≡ staying couple departing k) e' h.one) ∙ all_stay uncouple arriving in
          false≢true (sym not_come ∙ is_left couple departing arriving (subst (λ (k : ℕ). may_stay couple (length departing) k ≡ true) e' may') some less is'))
          (λ (more : length departing ≤ length arriving). go (omega arith))
          (cases_lt (length arriving) (length departing)) in
          absurd (⊎_elim (λ (z : length arriving - n ≡ 0). come (omega arith)) (λ (z : length departing - n ≡ 0). go (omega arith)) h.none)

      on : (o : Option ℕ) → kept_length uncouple couple types_in types_out ≡ o → turn_parts f uncouple couple false arriving departing ≡ None
      on None e = at_none e
      on (Some n) e = at_number n e ∙ none_at n e (parts_at uncouple couple false arriving departing n) refl

  pub plain_turn : 1 ≤ length arriving → 1 ≤ length departing → turn_parts f uncouple couple false arriving departing ≡ plain_parts uncouple couple arriving departing
  unfolding plain_parts
  plain_turn some some' = elim (cases_Bool (same arriving departing)) [
    | inl alike ↦ all_alike some (same_is arriving departing alike) ∙ sym (cond-true (same arriving departing) _ _ alike)
    | inr differ ↦ elim (cases_Bool (is_left_of uncouple arriving departing)) [
      | inl left ↦ some_go (left_is uncouple arriving departing left) ∙ sym (cond-true (is_left_of uncouple arriving departing) _ _ left) ∙ sym (cond-false (same arriving departing) _ _ differ)
      | inr not_left ↦ elim (cases_Bool (is_left_of couple departing arriving)) [
        | inl left ↦ some_come (left_is couple departing arriving left) ∙ sym (cond-true (is_left_of couple departing arriving) _ _ left)
            ∙ sym (cond-false (is_left_of uncouple arriving departing) _ _ not_left) ∙ sym (cond-false (same arriving departing) _ _ differ)
        | inr not_come ↦ no_parts differ not_left not_come some some' ∙ sym (cond-false (is_left_of couple departing arriving) _ _ not_come)
            ∙ sym (cond-false (is_left_of uncouple arriving departing) _ _ not_left) ∙ sym (cond-false (same arriving departing) _ _ differ)
      ]
    ]
  ]

-- Turns without exchange, between lists that are not empty.
pub is_plain_turn : IsPlainTurn
is_plain_turn type_of uncouple couple arriving departing some some' = plain_turn type_of uncouple couple arriving departing some some'
