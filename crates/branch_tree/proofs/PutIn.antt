-- The entries after a put: those of lower indices, the new one, and those of higher indices.
use Rattle.std.proofs.Common.{◌≡◌, ℕ, zero, suc, ◌<◌, ◌≤◌, List, [], ◌∷◌, ◌++◌, filter, nat_lt, get_or, All, Bool, true}
use Rattle.std.proofs.Common.{false, cond, ◌==◌, if◌then◌else◌, ltb, eqb, ℤ, unsigned_abs, refl, sym, ◌∙◌, ap, arith}
use Rattle.std.specs.List.{insert}
use Rattle.std.proofs.lemmas.Bool.{eq-eqb, eqb-true, lt-ltb, ltb-true, false_from_ne_true}
use Rattle.std.proofs.lemmas.List.Elements.{All-head, All-tail}
use Rattle.branch_tree.specs.declared.multipliers.Entry.{Entry}
use Rattle.branch_tree.specs.Entries.{AreRising, entry_of, put_in}
use Rattle.branch_tree.specs.Places.{IsAt, IsPlaceOf, changed}
use Rattle.branch_tree.proofs.Puts.{place-tail, at-tail, strictly_after}
use Rattle.branch_tree.proofs.Rising.{rising-tail, rising-head}

-- a list that passes a test throughout, and one that passes it nowhere
filter_all : (test : Entry → Bool) (entries : List Entry) → All (λ entry. test entry ≡ true) entries → filter test entries ≡ entries
filter_all test [] all = refl
filter_all test (entry ∷ entries) all =
    ap (λ b. cond b (entry ∷ filter test entries) (filter test entries)) (All-head (λ e. test e ≡ true) entry entries all)
    ∙ ap (λ rest. entry ∷ rest) (filter_all test entries (All-tail (λ e. test e ≡ true) entry entries all))

filter_none : (test : Entry → Bool) (entries : List Entry) → All (λ entry. test entry ≡ false) entries → filter test entries ≡ []
filter_none test [] all = refl
filter_none test (entry ∷ entries) all =
    ap (λ b. cond b (entry ∷ filter test entries) (filter test entries)) (All-head (λ e. test e ≡ false) entry entries all)
    ∙ filter_none test entries (All-tail (λ e. test e ≡ false) entry entries all)

not_lt : (a b : ℕ) → b ≤ a → nat_lt a b ≡ false
not_lt a b high = false_from_ne_true (ltb a b) (λ less. omega (arith, high, ltb-true a b less))

-- entries of higher indices alone
put_in-below : (entries : List Entry) (index : ℕ) (value : ℤ) → All (λ entry. index < entry.index) entries → put_in entries index value ≡ entry_of index value ++ entries
put_in-below entries index value above =
    ap (λ lower. lower ++ (entry_of index value ++ filter (λ entry. nat_lt index entry.index) entries))
    (filter_none (λ entry. nat_lt entry.index index) entries (λ k d inside. not_lt (get_or entries k d).index index (omega (arith, above k d inside))))
    ∙ ap (λ higher. entry_of index value ++ higher) (filter_all (λ entry. nat_lt index entry.index) entries (λ k d inside. lt-ltb index (get_or entries k d).index (above k d inside)))

-- a first entry of a lower index stays in front
put_in-past : (entry : Entry) (entries : List Entry) (index : ℕ) (value : ℤ) → entry.index < index → put_in (entry ∷ entries) index value ≡ entry ∷ put_in entries index value
put_in-past entry entries index value low =
    ap (λ b. cond b (entry ∷ filter (λ e. nat_lt e.index index) entries) (filter (λ e. nat_lt e.index index) entries) ++ (entry_of index value ++ filter (λ e. nat_lt index e.index) (entry ∷ entries)))
    (lt-ltb entry.index index low)
    ∙ ap (λ b. entry ∷ (filter (λ e. nat_lt e.index index) entries ++ (entry_of index value ++ cond b (entry ∷ filter (λ e. nat_lt index e.index) entries) (filter (λ e. nat_lt index e.index) entries))))
    (not_lt index entry.index (omega (arith, low)))

-- a first entry of this index is replaced
put_in-at : (entry : Entry) (entries : List Entry) (index : ℕ) (value : ℤ) → entry.index ≡ index → AreRising (entry ∷ entries) → put_in (entry ∷ entries) index value ≡ entry_of index value ++ entries
put_in-at entry entries index value at rising =
    ap (λ b. cond b (entry ∷ filter (λ e. nat_lt e.index index) entries) (filter (λ e. nat_lt e.index index) entries) ++ (entry_of index value ++ filter (λ e. nat_lt index e.index) (entry ∷ entries)))
    (not_lt entry.index index (omega (arith, at)))
    ∙ ap (λ b. filter (λ e. nat_lt e.index index) entries ++ (entry_of index value ++ cond b (entry ∷ filter (λ e. nat_lt index e.index) entries) (filter (λ e. nat_lt index e.index) entries)))
    (not_lt index entry.index (omega (arith, at)))
    ∙ put_in-below entries index value (λ k d inside. omega (arith, at, rising-head entry entries rising k d inside))

pub put_in-changed : (entries : List Entry) (index place : ℕ) (value : ℤ) → AreRising entries → IsPlaceOf entries index place → IsAt entries place index → put_in entries index value ≡ changed entries place value
put_in-changed [] index place value rising place_of at = absurd (omega (arith, at.within))
put_in-changed (entry ∷ entries) index zero value rising place_of at = put_in-at entry entries index value (at.here entry) rising ∙ replaced (unsigned_abs value == 0)
  where
    replaced : (b : Bool) → (if b then [] else record { index = index; value = value } ∷ []) ++ entries ≡ (if b then entries else record entry { value = value } ∷ entries)
    replaced true = refl
    replaced false = ap {B = List Entry} (λ n. record { index = n; value = value } ∷ entries) (sym (at.here entry))
put_in-changed (entry ∷ entries) index (suc place) value rising place_of at =
    put_in-past entry entries index value (place_of.before 0 entry (omega arith))
    ∙ ap (λ rest. entry ∷ rest) (put_in-changed entries index place value (rising-tail entry entries rising) (place-tail entry entries index place place_of) (at-tail entry entries place index at))

entry_of-some : (index : ℕ) (value : ℤ) → (unsigned_abs value ≡ 0 → ⊥) → entry_of index value ≡ record { index = index; value = value } ∷ []
entry_of-some index value some =
    ap (λ b. if b then [] else record { index = index; value = value } ∷ []) (false_from_ne_true (eqb (unsigned_abs value) 0) (λ same. some (eqb-true (unsigned_abs value) 0 same)))

-- the place is past the first entry in the tail too
away_tail : (entry : Entry) (entries : List Entry) (index place : ℕ) → (IsAt (entry ∷ entries) (suc place) index → ⊥) → IsAt entries place index → ⊥
away_tail entry entries index place away at = away (record { within = omega (arith, at.within); here = λ d. at.here d })

pub put_in-new : (entries : List Entry) (index place : ℕ) (value : ℤ) → AreRising entries → IsPlaceOf entries index place → (IsAt entries place index → ⊥) → (unsigned_abs value ≡ 0 → ⊥) →
    put_in entries index value ≡ insert entries place (record { index = index; value = value })
put_in-new entries index zero value rising place_of away some =
    put_in-below entries index value (λ k d inside. strictly_after entries index 0 rising place_of away k d (omega arith) inside)
    ∙ ap (λ new. new ++ entries) (entry_of-some index value some)
put_in-new [] index (suc place) value rising place_of away some = absurd (omega (arith, place_of.within))
put_in-new (entry ∷ entries) index (suc place) value rising place_of away some =
    put_in-past entry entries index value (place_of.before 0 entry (omega arith))
    ∙ ap (λ rest. entry ∷ rest) (put_in-new entries index place value (rising-tail entry entries rising) (place-tail entry entries index place place_of) (away_tail entry entries index place away) some)

pub put_in-none : (entries : List Entry) (index place : ℕ) (value : ℤ) → AreRising entries → IsPlaceOf entries index place → (IsAt entries place index → ⊥) → unsigned_abs value ≡ 0 → put_in entries index value ≡ entries
put_in-none entries index zero value rising place_of away none =
    put_in-below entries index value (λ k d inside. strictly_after entries index 0 rising place_of away k d (omega arith) inside)
    ∙ ap (λ b. (if b then [] else record { index = index; value = value } ∷ []) ++ entries) (eq-eqb (unsigned_abs value) 0 none)
put_in-none [] index (suc place) value rising place_of away none = absurd (omega (arith, place_of.within))
put_in-none (entry ∷ entries) index (suc place) value rising place_of away none =
    put_in-past entry entries index value (place_of.before 0 entry (omega arith))
    ∙ ap (λ rest. entry ∷ rest) (put_in-none entries index place value (rising-tail entry entries rising) (place-tail entry entries index place place_of) (away_tail entry entries index place away) none)
