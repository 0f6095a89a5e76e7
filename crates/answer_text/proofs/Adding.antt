-- Entries that are added by rising index.
use Rattle.std.proofs.Common.{◌≡◌, ◌≢◌, ℕ, zero, suc, ◌+◌, ◌-◌, ◌<◌, ◌≤◌, Bool, true, false, ◌||◌, cond, eqb, ltb, ℤ}
use Rattle.std.proofs.Common.{pos, negsuc, List, [], ◌∷◌, ◌++◌, length, filter, Option, Some, None, Result, Ok, Err}
use Rattle.std.proofs.Common.{w64, to_z, of_z, refl, sym, subst, ◌∙◌, arith}
use Rattle.std.specs.Prelude.{unsigned_abs, OnOk, nat_lt}
use Rattle.std.specs.Result.{result_err, is_ok}
use Rattle.std.specs.Fmt.{decimal, signed_decimal}
use Rattle.std.proofs.lemmas.Bool.Decides.{nat_tests}
use Rattle.std.proofs.lemmas.Int.{to_z-of_z}
use Rattle.branch_tree.specs.declared.multipliers.Entry.{Entry}
use Rattle.branch_tree.specs.declared.multipliers.PutRefusal.{PutRefusal}
use Rattle.branch_tree.specs.declared.multipliers.PutRefusal.TheVariants.{Full}
use Rattle.branch_tree.specs.Entries.{is_entered, put_in, refusal_of}
use Rattle.answer_text.specs.Numbers.{◌>>=◌, at_end, number_in, nonzero_in}
use Rattle.answer_text.specs.Pieces.{pieces}
use Rattle.answer_text.specs.ReadLines.{AreBelow, entries_in, entry_in, entry_of, next_entry}
use Rattle.answer_text.proofs.Signs.{bind_some, nonzero_sound, some_is}
use Rattle.answer_text.proofs.Numerals.{number_sound}

-- ---- what is put past the last index

lower_kept : (index : ℕ) (entries : List Entry) → AreBelow index entries → filter (λ entry. nat_lt entry.index index) entries ≡ entries
lower_kept index [] below = refl
lower_kept index (entry ∷ entries) below = rw (lt_to entry.index index below.0, lower_kept index entries below.1) refl
  where
    lt_to : (a b : ℕ) → a < b → ltb a b ≡ true
    lt_to a b h = grind (arith, nat_tests)

higher_none : (index : ℕ) (entries : List Entry) → AreBelow index entries → filter (λ entry. nat_lt index entry.index) entries ≡ []
higher_none index [] below = refl
higher_none index (entry ∷ entries) below = rw (lt_not entry.index index below.0, higher_none index entries below.1) refl
  where
    lt_not : (a b : ℕ) → a < b → ltb b a ≡ false
    lt_not a b h = grind (arith, nat_tests)

has_size : (value : ℤ) → value ≢ pos 0 → eqb (unsigned_abs value) 0 ≡ false
has_size (pos zero) h = absurd (h refl)
has_size (pos (suc n)) h = positive n
  where
    positive : (n : ℕ) → eqb (suc n) 0 ≡ false
    positive n = grind (arith, nat_tests)
has_size (negsuc n) h = positive n
  where
    positive : (n : ℕ) → eqb (suc n) 0 ≡ false
    positive n = grind (arith, nat_tests)

raised : (least index : ℕ) (entries : List Entry) → least ≤ index → AreBelow least entries → AreBelow index entries
raised least index [] le below = tt
raised least index (entry ∷ entries) le below = (omega (arith, le, below.0), raised least index entries le below.1)

pub put_past : (entries : List Entry) (index : ℕ) (value : ℤ) (least : ℕ) → AreBelow least entries → least ≤ index → value ≢ pos 0
    → put_in entries index value ≡ entries ++ (record { index = index; value = value }) ∷ []
put_past entries index value least below le other =
    let under = raised least index entries le below in
    rw (lower_kept index entries under, higher_none index entries under, has_size value other) refl

pub below_more : (entries : List Entry) (entry : Entry) (least next : ℕ) → AreBelow least entries → least ≤ entry.index → next ≡ entry.index + 1 → AreBelow next (entries ++ entry ∷ [])
below_more [] entry least next below le more = (omega (arith, more), tt)
below_more (first ∷ entries) entry least next below le more = (omega (arith, below.0, le, more), below_more entries entry least next below.1 le more)

pub not_refused : (entries : List Entry) (index : ℕ) (value : ℤ) → unsigned_abs value ≤ 1000000000000 → length entries < 1000 → refusal_of entries index value ≡ None
not_refused entries index value within room =
    rw (le_not (unsigned_abs value) within, lt_room (length entries) room) (none_left (eqb (unsigned_abs value) 0) (is_entered entries index))
  where
    le_not : (size : ℕ) → size ≤ 1000000000000 → ltb 1000000000000 size ≡ false
    le_not size h = grind (arith, nat_tests)

    lt_room : (count : ℕ) → count < 1000 → ltb count 1000 ≡ true
    lt_room count h = grind (arith, nat_tests)

    none_left : (a b : Bool) → cond (a || b || true) None (Some Full) ≡ None
    none_left true b = refl
    none_left false true = refl
    none_left false false = refl

-- the bits of a value that fits say the value
pub same_value : (value : ℤ) → unsigned_abs value ≤ 1000000000000 → to_z w64 (of_z w64 value) ≡ value
same_value (pos n) within = to_z-of_z w64 (pos n) (record { sfits = omega (arith, within) })
same_value (negsuc n) within = to_z-of_z w64 (negsuc n) (record { sfits = omega (arith, within) })

pub no_refusal : (r : Result (Unit {0}) PutRefusal) (refusal : Option PutRefusal) → result_err r ≡ refusal → refusal ≡ None → is_ok r ≡ true
no_refusal (Ok x) refusal e none = refl
no_refusal (Err x) refusal e none = absurd cc

pub on_ok : {P : Type 0} → (r : Result (Unit {0}) PutRefusal) → is_ok r ≡ true → OnOk r P → P
on_ok (Ok x) e p = p
on_ok (Err x) e p = absurd cc

-- ---- what an entry's word gives

-- an entry within the limits
pub record IsRead (entry : Entry) : Type 0 where
  pub index : entry.index ≤ 999999
  pub size : unsigned_abs entry.value ≤ 1000000000000
  pub other : entry.value ≢ pos 0

kept : {A : Type 0} → (b : Bool) (x : Option A) (y : A) → cond b x None ≡ Some y → (b ≡ true) × (x ≡ Some y)
kept true x y e = (refl, e)
kept false x y e = absurd cc

none_left : (words : List (List ℕ)) → eqb (length words) 0 ≡ true → words ≡ []
none_left [] h = refl
none_left (word ∷ words) h = absurd (longer (length words) h)
  where
    longer : (n : ℕ) → eqb (suc n) 0 ≡ true → ⊥
    longer n h = grind (arith, nat_tests)

-- the pieces of an entry's word, and the limits of the entry
pub entry_sound : (parts : List (List ℕ)) (entry : Entry) → entry_in parts ≡ Some entry → (parts ≡ decimal entry.index ∷ signed_decimal entry.value ∷ []) × IsRead entry
unfolding entry_in entry_of
entry_sound [] entry e = absurd cc
entry_sound (index ∷ []) entry e = absurd cc
entry_sound (index ∷ value ∷ more) entry e =
    let rest = kept (eqb (length more) 0) (number_in 999999 index >>= λ number. nonzero_in 1000000000000 value >>= λ amount. Some (record { index = number; value = amount })) entry e in
    let first = bind_some (number_in 999999 index) (λ number. nonzero_in 1000000000000 value >>= λ amount. Some (record { index = number; value = amount })) entry rest.1 in
    let second = bind_some (nonzero_in 1000000000000 value) (λ amount. Some (record { index = first.0; value = amount })) entry first.2 in
    let number = number_sound 999999 index first.0 first.1 in
    let amount = nonzero_sound 1000000000000 value second.0 second.1 in
    let made : Entry = record { index = first.0; value = second.0 } in
    let same : made ≡ entry = some_is made entry second.2 in
    subst (λ (x : Entry). (index ∷ value ∷ more ≡ decimal x.index ∷ signed_decimal x.value ∷ []) × IsRead x) same
    ((λ i. number.0 i ∷ amount.0 i ∷ none_left more rest.0 i), record { index = number.1; size = amount.1; other = amount.2 })

pub next_entry_sound : (words : List (List ℕ)) (entry : Entry) (rest : List (List ℕ)) → next_entry words ≡ Some (entry, rest)
    → (word : List ℕ) × (words ≡ word ∷ rest) × (pieces 58 word ≡ decimal entry.index ∷ signed_decimal entry.value ∷ []) × IsRead entry
unfolding next_entry
next_entry_sound [] entry rest e = absurd cc
next_entry_sound (word ∷ words) entry rest e =
    let found = bind_some (entry_in (pieces 58 word)) (λ x. Some (x, words)) (entry, rest) e in
    let sound = entry_sound (pieces 58 word) found.0 found.1 in
    let same = pair_is (found.0, words) (entry, rest) found.2 in
    let moved = subst (λ (x : Entry). (pieces 58 word ≡ decimal x.index ∷ signed_decimal x.value ∷ []) × IsRead x) same.0 sound in
    (word, same.1, moved.0, moved.1)
  where
    pair_is : (x y : Entry × List (List ℕ)) → Some x ≡ Some y → (x.0 ≡ y.0) × (word ∷ x.1 ≡ word ∷ y.1)
    pair_is x y e = (cc, cc)

-- ---- the loop over entries

pub entries_step : (count i least next : ℕ) (entries : List Entry) (words rest : List (List ℕ)) (entry : Entry) (whole : Option (List Entry)) → i < count → next_entry words ≡ Some (entry, rest) → least ≤ entry.index
    → next ≡ entry.index + 1 → entries_in (count - i) least entries words ≡ whole → entries_in (count - (i + 1)) next (entries ++ entry ∷ []) rest ≡ whole
unfolding entries_in
entries_step count i least next entries words rest entry whole more here le up before =
    let left : count - i ≡ suc (count - (i + 1)) = omega (arith, more) in
    let step : entries_in (count - i) least entries words ≡ entries_in (count - (i + 1)) next (entries ++ entry ∷ []) rest =
    rw (left, here, not_lt entry.index least le, up) refl in
    sym step ∙ before
  where
    not_lt : (a b : ℕ) → b ≤ a → ltb a b ≡ false
    not_lt a b h = grind (arith, nat_tests)

pub entries_missing : (count i least : ℕ) (entries : List Entry) (words : List (List ℕ)) (whole : Option (List Entry)) → i < count → next_entry words ≡ None
    → entries_in (count - i) least entries words ≡ whole → None ≡ whole
unfolding entries_in
entries_missing count i least entries words whole more here before =
    let left : count - i ≡ suc (count - (i + 1)) = omega (arith, more) in
    let step : entries_in (count - i) least entries words ≡ None = rw (left, here) refl in
    sym step ∙ before

pub entries_falling : (count i least : ℕ) (entries : List Entry) (words rest : List (List ℕ)) (entry : Entry) (whole : Option (List Entry)) → i < count → next_entry words ≡ Some (entry, rest) → entry.index < least
    → entries_in (count - i) least entries words ≡ whole → None ≡ whole
unfolding entries_in
entries_falling count i least entries words rest entry whole more here lt before =
    let left : count - i ≡ suc (count - (i + 1)) = omega (arith, more) in
    let step : entries_in (count - i) least entries words ≡ None = rw (left, here, is_lt entry.index least lt) refl in
    sym step ∙ before
  where
    is_lt : (a b : ℕ) → a < b → ltb a b ≡ true
    is_lt a b h = grind (arith, nat_tests)

pub entries_end : (count i least : ℕ) (entries : List Entry) (words : List (List ℕ)) (whole : Option (List Entry)) (ended : Bool) → count ≤ i → ended ≡ eqb (length words) 0
    → entries_in (count - i) least entries words ≡ whole → cond ended (Some entries) None ≡ whole
unfolding entries_in at_end
entries_end count i least entries words whole ended all is before =
    let left : count - i ≡ 0 = omega (arith, all) in
    let step : entries_in (count - i) least entries words ≡ cond ended (Some entries) None = rw (left, is) refl in
    sym step ∙ before
