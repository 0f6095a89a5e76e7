-- What a put leaves: the values at each index, and the entries in order.
use Rattle.std.proofs.Common.{◌≡◌, ℕ, zero, suc, ◌<◌, ◌≤◌, ◌≢◌, List, [], ◌∷◌, length, get_or, set, take, drop, All}
use Rattle.std.proofs.Common.{Bool, true, false, ◌||◌, ◌==◌, if◌then◌else◌, ltb, eqb, ℤ, pos, negsuc, unsigned_abs}
use Rattle.std.proofs.Common.{Some, None, ◌⊎◌, inl, inr, refl, sym, ◌∙◌, ap, arith, ⊎_elim}
use Rattle.std.specs.List.{insert, remove}
use Rattle.std.proofs.lemmas.Bool.{cases_lt, eq-eqb, eqb-true, lt-ltb, ltb-true, false_from_ne_true}
use Rattle.std.proofs.Math.Bool.{or-true}
use Rattle.std.proofs.lemmas.Bool.Decides.{eqb_tells}
use Rattle.std.proofs.lemmas.List.Edits.{length-insert}
use Rattle.std.proofs.lemmas.List.Elements.{All-append, All-cons, All-take, All-drop, All-head, All-tail, All-nil}
use Rattle.rail_base.specs.declared.limits.TheConstants.{MAX_ENTRIES, MAX_MULTIPLIER}
use Rattle.branch_tree.specs.declared.multipliers.Entry.{Entry}
use Rattle.branch_tree.specs.declared.multipliers.PutRefusal.TheVariants.{TooLarge, Full}
use Rattle.branch_tree.specs.Entries.{AreMultipliers, AreRising, IsPut, value_at, is_entered, refusal_of}
use Rattle.branch_tree.specs.Places.{IsAt, IsPlaceOf, changed}
use Rattle.branch_tree.proofs.Rising.{same_read, rising-tail, rising-head, rising-cons}

-- two tests of one number for two different numbers may change places
swap_tests : (i a b : ℕ) (u v w : ℤ) → a ≢ b → (if i == a then u else if i == b then v else w) ≡ (if i == b then v else if i == a then u else w)
swap_tests i a b u v w differ = swap (eqb_tells i a) (eqb_tells i b)
  where
    swap : ((eqb i a ≡ true) × (i ≡ a)) ⊎ ((eqb i a ≡ false) × (i ≢ a)) → ((eqb i b ≡ true) × (i ≡ b)) ⊎ ((eqb i b ≡ false) × (i ≢ b)) →
        (if i == a then u else if i == b then v else w) ≡ (if i == b then v else if i == a then u else w)
    swap (inl (p, at)) (inl (q, same)) = absurd (differ (sym at ∙ same))
    swap (inl (p, at)) (inr (q, other)) = rw (p, q) refl
    swap (inr (p, other)) (inl (q, same)) = rw (p, q) refl
    swap (inr (p, other)) (inr (q, another)) = rw (p, q) refl

-- an index that no entry has reads as 0, and is not entered
pub value_at-absent : (entries : List Entry) (index : ℕ) → All (λ entry. entry.index ≢ index) entries → value_at entries index ≡ pos 0
value_at-absent [] index none = refl
value_at-absent (entry ∷ entries) index none = absent (eqb_tells index entry.index) (value_at-absent entries index (All-tail (λ e. e.index ≢ index) entry entries none))
  where
    absent : ((eqb index entry.index ≡ true) × (index ≡ entry.index)) ⊎ ((eqb index entry.index ≡ false) × (index ≢ entry.index)) →
        value_at entries index ≡ pos 0 → (if index == entry.index then entry.value else value_at entries index) ≡ pos 0
    absent (inl (p, at)) rest = absurd (All-head (λ e. e.index ≢ index) entry entries none (sym at))
    absent (inr (p, other)) rest = rw p rest

pub is_entered-absent : (entries : List Entry) (index : ℕ) → All (λ entry. entry.index ≢ index) entries → is_entered entries index ≡ false
is_entered-absent [] index none = refl
is_entered-absent (entry ∷ entries) index none = absent (eqb_tells index entry.index) (is_entered-absent entries index (All-tail (λ e. e.index ≢ index) entry entries none))
  where
    absent : ((eqb index entry.index ≡ true) × (index ≡ entry.index)) ⊎ ((eqb index entry.index ≡ false) × (index ≢ entry.index)) →
        is_entered entries index ≡ false → ((index == entry.index) || is_entered entries index) ≡ false
    absent (inl (p, at)) rest = absurd (All-head (λ e. e.index ≢ index) entry entries none (sym at))
    absent (inr (p, other)) rest = rw p rest

-- the place of an index in the tail of a list
pub place-tail : (entry : Entry) (entries : List Entry) (index place : ℕ) → IsPlaceOf (entry ∷ entries) index (suc place) → IsPlaceOf entries index place
place-tail entry entries index place at = record {
  within = omega (arith, at.within);
  before = λ k d less. at.before (suc k) d (omega (arith, less));
  after = λ k d from inside. at.after (suc k) d (omega (arith, from)) (omega (arith, inside));
}

pub at-tail : (entry : Entry) (entries : List Entry) (place index : ℕ) → IsAt (entry ∷ entries) (suc place) index → IsAt entries place index
at-tail entry entries place index at = record { within = omega (arith, at.within); here = λ d. at.here d }

-- the first entry comes before the place of an index, so it has another one
first_differs : (entry : Entry) (entries : List Entry) (index place : ℕ) → IsPlaceOf (entry ∷ entries) index (suc place) → entry.index ≢ index
first_differs entry entries index place at same = omega (arith, at.before 0 entry (omega arith), same)

-- the entry at the place of an index tells its value
pub value_at-there : (entries : List Entry) (index place : ℕ) (d : Entry) → IsPlaceOf entries index place → IsAt entries place index → value_at entries index ≡ (get_or entries place d).value
value_at-there [] index place d place_of at = absurd (omega (arith, at.within))
value_at-there (entry ∷ entries) index zero d place_of at = first (eqb_tells index entry.index)
  where
    first : ((eqb index entry.index ≡ true) × (index ≡ entry.index)) ⊎ ((eqb index entry.index ≡ false) × (index ≢ entry.index)) →
        (if index == entry.index then entry.value else value_at entries index) ≡ entry.value
    first (inl (p, same)) = rw p refl
    first (inr (p, other)) = absurd (other (sym (at.here entry)))
value_at-there (entry ∷ entries) index (suc place) d place_of at =
    later (eqb_tells index entry.index) (value_at-there entries index place d (place-tail entry entries index place place_of) (at-tail entry entries place index at))
  where
    later : ((eqb index entry.index ≡ true) × (index ≡ entry.index)) ⊎ ((eqb index entry.index ≡ false) × (index ≢ entry.index)) →
        value_at entries index ≡ (get_or entries place d).value → (if index == entry.index then entry.value else value_at entries index) ≡ (get_or entries place d).value
    later (inl (p, same)) rest = absurd (first_differs entry entries index place place_of (sym same))
    later (inr (p, other)) rest = rw p rest

pub is_entered-there : (entries : List Entry) (index place : ℕ) → IsAt entries place index → is_entered entries index ≡ true
is_entered-there [] index place at = absurd (omega (arith, at.within))
is_entered-there (entry ∷ entries) index zero at = first (eqb_tells index entry.index)
  where
    first : ((eqb index entry.index ≡ true) × (index ≡ entry.index)) ⊎ ((eqb index entry.index ≡ false) × (index ≢ entry.index)) →
        ((index == entry.index) || is_entered entries index) ≡ true
    first (inl (p, same)) = rw p refl
    first (inr (p, other)) = absurd (other (sym (at.here entry)))
is_entered-there (entry ∷ entries) index (suc place) at = later (index == entry.index) (is_entered-there entries index place (at-tail entry entries place index at))
  where
    later : (b : Bool) → is_entered entries index ≡ true → (b || is_entered entries index) ≡ true
    later true rest = refl
    later false rest = rest

-- a new entry at the place of its index
pub put_new : (entries : List Entry) (index place : ℕ) (value : ℤ) → IsPlaceOf entries index place → IsPut entries index value (insert entries place (record { index = index; value = value }))
put_new entries index zero value place_of i = refl
put_new [] index (suc place) value place_of i = absurd (omega (arith, place_of.within))
put_new (entry ∷ entries) index (suc place) value place_of i =
    ap (λ rest. if i == entry.index then entry.value else rest) (put_new entries index place value (place-tail entry entries index place place_of) i)
    ∙ swap_tests i entry.index index entry.value value (value_at entries i) (first_differs entry entries index place place_of)

pub no_size : (value : ℤ) → unsigned_abs value ≡ 0 → value ≡ pos 0
no_size (pos n) none = ap pos none
no_size (negsuc n) none = absurd (omega (arith, none))

-- the value of the entry at the place of its index, changed
put_first : (entry : Entry) (entries : List Entry) (index : ℕ) (value : ℤ) → AreRising (entry ∷ entries) → entry.index ≡ index → (i : ℕ) →
    value_at (if unsigned_abs value == 0 then entries else record entry { value = value } ∷ entries) i ≡ (if i == index then value else if i == entry.index then entry.value else value_at entries i)
put_first entry entries index value rising at i = put (eqb_tells (unsigned_abs value) 0) (eqb_tells i index) (eqb_tells i entry.index)
  where
    put : ((eqb (unsigned_abs value) 0 ≡ true) × (unsigned_abs value ≡ 0)) ⊎ ((eqb (unsigned_abs value) 0 ≡ false) × (unsigned_abs value ≢ 0)) →
        ((eqb i index ≡ true) × (i ≡ index)) ⊎ ((eqb i index ≡ false) × (i ≢ index)) →
        ((eqb i entry.index ≡ true) × (i ≡ entry.index)) ⊎ ((eqb i entry.index ≡ false) × (i ≢ entry.index)) →
        value_at (if unsigned_abs value == 0 then entries else record entry { value = value } ∷ entries) i ≡ (if i == index then value else if i == entry.index then entry.value else value_at entries i)
    put (inl (n, none)) (inl (p, here)) _ = rw (n, p) (value_at-absent entries i
        (λ k d inside same. omega (arith, rising-head entry entries rising k d inside, same, here, at)) ∙ sym (no_size value none))
    put (inl (n, none)) (inr (p, away)) (inl (q, there)) = absurd (away (there ∙ at))
    put (inl (n, none)) (inr (p, away)) (inr (q, other)) = rw (n, p, q) refl
    put (inr (n, some)) (inl (p, here)) (inl (q, there)) = rw (n, p, q) refl
    put (inr (n, some)) (inl (p, here)) (inr (q, other)) = absurd (other (here ∙ sym at))
    put (inr (n, some)) (inr (p, away)) (inl (q, there)) = absurd (away (there ∙ at))
    put (inr (n, some)) (inr (p, away)) (inr (q, other)) = rw (n, p, q) refl

pub put_changed : (entries : List Entry) (index place : ℕ) (value : ℤ) → AreRising entries → IsPlaceOf entries index place → IsAt entries place index → IsPut entries index value (changed entries place value)
put_changed [] index place value rising place_of at i = absurd (omega (arith, at.within))
put_changed (entry ∷ entries) index zero value rising place_of at i = put_first entry entries index value rising (at.here entry) i
put_changed (entry ∷ entries) index (suc place) value rising place_of at i =
    ap (λ rest. if i == entry.index then entry.value else rest)
    (put_changed entries index place value (rising-tail entry entries rising) (place-tail entry entries index place place_of) (at-tail entry entries place index at) i)
    ∙ swap_tests i entry.index index entry.value value (value_at entries i) (first_differs entry entries index place place_of)

-- an index that is not at its place is nowhere: from there on the indices are greater
pub strictly_after : (entries : List Entry) (index place : ℕ) → AreRising entries → IsPlaceOf entries index place → (IsAt entries place index → ⊥) →
    (k : ℕ) (d : Entry) → place ≤ k → k < length entries → index < (get_or entries k d).index
strictly_after entries index place rising place_of away k d from inside =
    ⊎_elim (λ less. less)
    (λ most. absurd (⊎_elim
    (λ beyond. omega (arith, most, rising place k d beyond inside, place_of.after place d (omega arith) (omega (arith, inside, beyond))))
    (λ back. let at : k ≡ place = omega (arith, back, from) in
    away (record {
      within = omega (arith, at, inside);
      here = λ e. omega (arith, ap (λ entry. entry.index) (same_read entries k d e inside), ap (λ n. (get_or entries n e).index) at, most, place_of.after k d from inside);
    }))
    (cases_lt place k)))
    (cases_lt index (get_or entries k d).index)

pub none_there : (entries : List Entry) (index place : ℕ) → AreRising entries → IsPlaceOf entries index place → (IsAt entries place index → ⊥) → All (λ entry. entry.index ≢ index) entries
none_there entries index place rising place_of away k d inside same =
    ⊎_elim (λ before. omega (arith, place_of.before k d before, same))
    (λ from. omega (arith, strictly_after entries index place rising place_of away k d from inside, same))
    (cases_lt k place)

-- a fact of every entry and of a new one holds of every entry after an insertion
pub all-insert : (P : Entry → Type 0) (entries : List Entry) (place : ℕ) (new : Entry) → All P entries → P new → All P (insert entries place new)
all-insert P entries place new all here = All-append P (take place entries) (new ∷ drop place entries) (All-take P place entries all) (All-cons P new (drop place entries) here (All-drop P place entries all))

pub rising-insert : (entries : List Entry) (place : ℕ) (new : Entry) → AreRising entries → IsPlaceOf entries new.index place →
    ((k : ℕ) (d : Entry) → place ≤ k → k < length entries → new.index < (get_or entries k d).index) → AreRising (insert entries place new)
rising-insert entries zero new rising place_of above = rising-cons new entries (λ k d inside. above k d (omega arith) inside) rising
rising-insert [] (suc place) new rising place_of above = absurd (omega (arith, place_of.within))
rising-insert (entry ∷ entries) (suc place) new rising place_of above =
    rising-cons entry (insert entries place new)
    (all-insert (λ other. entry.index < other.index) entries place new (rising-head entry entries rising) (place_of.before 0 entry (omega arith)))
    (rising-insert entries place new (rising-tail entry entries rising) (place-tail entry entries new.index place place_of)
    (λ k d from inside. above (suc k) d (omega (arith, from)) (omega (arith, inside))))

-- a fact that a changed entry keeps holds of every entry after the change
pub all-changed : (P : Entry → Type 0) (entries : List Entry) (place : ℕ) (value : ℤ) → ((entry : Entry) → unsigned_abs value ≢ 0 → P entry → P (record entry { value = value })) → All P entries → All P (changed entries place value)
all-changed P [] place value stable all = All-nil P
all-changed P (entry ∷ entries) zero value stable all = change (eqb_tells (unsigned_abs value) 0)
  where
    change : ((eqb (unsigned_abs value) 0 ≡ true) × (unsigned_abs value ≡ 0)) ⊎ ((eqb (unsigned_abs value) 0 ≡ false) × (unsigned_abs value ≢ 0)) →
        All P (if unsigned_abs value == 0 then entries else record entry { value = value } ∷ entries)
    change (inl (p, none)) = rw p (All-tail P entry entries all)
    change (inr (p, some)) = rw p (All-cons P (record entry { value = value }) entries (stable entry some (All-head P entry entries all)) (All-tail P entry entries all))
all-changed P (entry ∷ entries) (suc place) value stable all =
    All-cons P entry (changed entries place value) (All-head P entry entries all) (all-changed P entries place value stable (All-tail P entry entries all))

pub rising-changed : (entries : List Entry) (place : ℕ) (value : ℤ) → AreRising entries → AreRising (changed entries place value)
rising-changed [] place value rising = rising
rising-changed (entry ∷ entries) zero value rising = change (eqb (unsigned_abs value) 0)
  where
    change : (b : Bool) → AreRising (if b then entries else record entry { value = value } ∷ entries)
    change true = rising-tail entry entries rising
    change false = rising-cons (record entry { value = value }) entries (rising-head entry entries rising) (rising-tail entry entries rising)
rising-changed (entry ∷ entries) (suc place) value rising =
    rising-cons entry (changed entries place value)
    (all-changed (λ other. entry.index < other.index) entries place value (λ other _ above. above) (rising-head entry entries rising))
    (rising-changed entries place value (rising-tail entry entries rising))

pub length-changed : (entries : List Entry) (place : ℕ) (value : ℤ) → length (changed entries place value) ≤ length entries
length-changed [] place value = omega arith
length-changed (entry ∷ entries) zero value = change (eqb (unsigned_abs value) 0)
  where
    change : (b : Bool) → length (if b then entries else record entry { value = value } ∷ entries) ≤ suc (length entries)
    change true = omega arith
    change false = omega arith
length-changed (entry ∷ entries) (suc place) value = omega (arith, length-changed entries place value)

-- the entries are multipliers after a change and after an insertion
pub multipliers-changed : (entries : List Entry) (place : ℕ) (value : ℤ) → AreMultipliers entries → unsigned_abs value ≤ MAX_MULTIPLIER → AreMultipliers (changed entries place value)
multipliers-changed entries place value multipliers small = record {
  rising = rising-changed entries place value multipliers.rising;
  not_zero = all-changed (λ entry. entry.value ≢ pos 0) entries place value (λ entry some _ none. some (ap unsigned_abs none)) multipliers.not_zero;
  within = all-changed (λ entry. unsigned_abs entry.value ≤ MAX_MULTIPLIER) entries place value (λ entry _ _. small) multipliers.within;
  few = omega (arith, length-changed entries place value, multipliers.few);
}

pub multipliers-inserted : (entries : List Entry) (place index : ℕ) (value : ℤ) → AreMultipliers entries → IsPlaceOf entries index place → (IsAt entries place index → ⊥) →
    unsigned_abs value ≤ MAX_MULTIPLIER → (unsigned_abs value ≡ 0 → ⊥) → length entries < MAX_ENTRIES → AreMultipliers (insert entries place (record { index = index; value = value }))
multipliers-inserted entries place index value multipliers place_of away small some room =
    let new : Entry = record { index = index; value = value } in
    record {
      rising = rising-insert entries place new multipliers.rising place_of (strictly_after entries index place multipliers.rising place_of away);
      not_zero = all-insert (λ entry. entry.value ≢ pos 0) entries place new multipliers.not_zero (λ none. some (ap unsigned_abs none));
      within = all-insert (λ entry. unsigned_abs entry.value ≤ MAX_MULTIPLIER) entries place new multipliers.within small;
      few = omega (arith, length-insert entries place new place_of.within, room);
    }

-- 0 put at an index that is not entered changes nothing
pub put_nothing : (entries : List Entry) (index : ℕ) (value : ℤ) → unsigned_abs value ≡ 0 → All (λ entry. entry.index ≢ index) entries → IsPut entries index value entries
put_nothing entries index value none absent i = put (eqb_tells i index)
  where
    put : ((eqb i index ≡ true) × (i ≡ index)) ⊎ ((eqb i index ≡ false) × (i ≢ index)) → value_at entries i ≡ (if i == index then value else value_at entries i)
    put (inl (p, here)) = rw p (ap (value_at entries) here ∙ value_at-absent entries index absent ∙ sym (no_size value none))
    put (inr (p, away)) = rw p refl

-- a value of no size takes the entry at a place out, and every other value is set there
pub changed_out : (entries : List Entry) (place : ℕ) (value : ℤ) → unsigned_abs value ≡ 0 → place < length entries → remove entries place ≡ changed entries place value
changed_out [] place value none inside = absurd (omega (arith, inside))
changed_out (entry ∷ entries) zero value none inside = sym (ap (λ b. if b then entries else record entry { value = value } ∷ entries) (eq-eqb (unsigned_abs value) 0 none))
changed_out (entry ∷ entries) (suc place) value none inside = ap (λ rest. entry ∷ rest) (changed_out entries place value none (omega (arith, inside)))

pub changed_in : (entries : List Entry) (place : ℕ) (value : ℤ) (d : Entry) → (unsigned_abs value ≡ 0 → ⊥) → place < length entries →
    set entries place (record { index = (get_or entries place d).index; value = value }) ≡ changed entries place value
changed_in [] place value d some inside = absurd (omega (arith, inside))
changed_in (entry ∷ entries) zero value d some inside =
    sym (ap (λ b. if b then entries else record entry { value = value } ∷ entries) (false_from_ne_true (eqb (unsigned_abs value) 0) (λ same. some (eqb-true (unsigned_abs value) 0 same))))
changed_in (entry ∷ entries) (suc place) value d some inside = ap (λ rest. entry ∷ rest) (changed_in entries place value d some (omega (arith, inside)))

-- the cases of a refusal
refused_small : (entries : List Entry) (index : ℕ) (value : ℤ) → unsigned_abs value ≤ MAX_MULTIPLIER →
    refusal_of entries index value ≡ (if (unsigned_abs value == 0) || is_entered entries index || ltb (length entries) MAX_ENTRIES then None else Some Full)
refused_small entries index value small =
    ap (λ b. if b then Some TooLarge else if (unsigned_abs value == 0) || is_entered entries index || ltb (length entries) MAX_ENTRIES then None else Some Full)
    (false_from_ne_true (ltb MAX_MULTIPLIER (unsigned_abs value)) (λ large. omega (arith, small, ltb-true MAX_MULTIPLIER (unsigned_abs value) large)))

pub refused_full : (entries : List Entry) (index : ℕ) (value : ℤ) → unsigned_abs value ≤ MAX_MULTIPLIER → (unsigned_abs value ≡ 0 → ⊥) → is_entered entries index ≡ false → MAX_ENTRIES ≤ length entries →
    refusal_of entries index value ≡ Some Full
refused_full entries index value small some absent full =
    let size : (unsigned_abs value == 0) ≡ false = false_from_ne_true (eqb (unsigned_abs value) 0) (λ same. some (eqb-true (unsigned_abs value) 0 same)) in
    let room : ltb (length entries) MAX_ENTRIES ≡ false = false_from_ne_true (ltb (length entries) MAX_ENTRIES) (λ less. omega (arith, full, ltb-true (length entries) MAX_ENTRIES less)) in
    refused_small entries index value small
    ∙ ap (λ b. if b || is_entered entries index || ltb (length entries) MAX_ENTRIES then None else Some Full) size
    ∙ ap (λ b. if false || b || ltb (length entries) MAX_ENTRIES then None else Some Full) absent
    ∙ ap (λ b. if false || false || b then None else Some Full) room

pub not_refused_zero : (entries : List Entry) (index : ℕ) (value : ℤ) → unsigned_abs value ≡ 0 → refusal_of entries index value ≡ None
not_refused_zero entries index value none =
    refused_small entries index value (omega (arith, none))
    ∙ ap (λ b. if b || is_entered entries index || ltb (length entries) MAX_ENTRIES then None else Some Full) (eq-eqb (unsigned_abs value) 0 none)

pub not_refused_there : (entries : List Entry) (index : ℕ) (value : ℤ) → unsigned_abs value ≤ MAX_MULTIPLIER → is_entered entries index ≡ true → refusal_of entries index value ≡ None
not_refused_there entries index value small there =
    refused_small entries index value small
    ∙ ap (λ b. if (unsigned_abs value == 0) || b || ltb (length entries) MAX_ENTRIES then None else Some Full) there
    ∙ ap (λ b. if b || ltb (length entries) MAX_ENTRIES then None else Some Full) (or-true (unsigned_abs value == 0))

pub not_refused_room : (entries : List Entry) (index : ℕ) (value : ℤ) → unsigned_abs value ≤ MAX_MULTIPLIER → length entries < MAX_ENTRIES → refusal_of entries index value ≡ None
not_refused_room entries index value small room =
    refused_small entries index value small
    ∙ ap (λ b. if (unsigned_abs value == 0) || is_entered entries index || b then None else Some Full) (lt-ltb (length entries) MAX_ENTRIES room)
    ∙ ap (λ b. if b then None else Some Full) (or-true ((unsigned_abs value == 0) || is_entered entries index))
