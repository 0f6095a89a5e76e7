-- Lists of entries: what they have at an index, when they are joined, taken apart and put into.
use Rattle.std.proofs.Common.{◌≡◌, ◌≢◌, ℕ, zero, suc, ◌+◌, ◌<◌, ◌≤◌, List, [], ◌∷◌, ◌++◌, filter, get_or, length}
use Rattle.std.proofs.Common.{Bool, true, false, cond, ◌==◌, ◌&&◌, ◌||◌, if◌then◌else◌, nat_lt, nat_le, ltb, eqb, All}
use Rattle.std.proofs.Common.{ℤ, pos, negsuc, unsigned_abs, ◌⊎◌, inl, inr, refl, sym, ◌∙◌, ap, arith}
use Rattle.std.proofs.lemmas.Bool.{eqb-true, eq-eqb, lt-ltb, ltb-true, cases_lt, false_from_ne_true}
use Rattle.std.proofs.lemmas.Bool.Decides.{eqb_tells, nat_tests}
use Rattle.std.proofs.lemmas.List.Elements.{All-append, All-cons, All-head, All-tail, filter-append, filter_passes}
use Rattle.std.proofs.lemmas.List.Kept.{AllPairs-filter}
use Rattle.branch_tree.specs.declared.multipliers.Entry.{Entry}
use Rattle.branch_tree.specs.Entries.{AreRising, entry_of, is_entered, put_in, value_at}
use Rattle.branch_tree.proofs.Rising.{rising-tail, rising-head, rising-cons}
use Rattle.advisors.specs.EntriesByIndex.{below, from_on}
use Rattle.advisors.specs.Puts.{AreDividedAt}

pub bool_cases : (b : Bool) → (b ≡ true) ⊎ (b ≡ false)
bool_cases true = inl refl
bool_cases false = inr refl

-- an index that has no entry has the value 0
value_at-none : (xs : List Entry) (i : ℕ) → is_entered xs i ≡ false → value_at xs i ≡ pos 0
value_at-none [] i none = refl
value_at-none (x ∷ xs) i none = of (i == x.index) (value_at-none xs i) none
  where
    of : (b : Bool) → (is_entered xs i ≡ false → value_at xs i ≡ pos 0) → (b || is_entered xs i) ≡ false →
        (if b then x.value else value_at xs i) ≡ pos 0
    of true rest none = absurd cc
    of false rest none = rest none

-- where the first list doesn't have an index, the second one tells its value
pub value_at-skip : (xs ys : List Entry) (i : ℕ) → is_entered xs i ≡ false → value_at (xs ++ ys) i ≡ value_at ys i
value_at-skip [] ys i none = refl
value_at-skip (x ∷ xs) ys i none = of (i == x.index) (value_at-skip xs ys i) none
  where
    of : (b : Bool) → (is_entered xs i ≡ false → value_at (xs ++ ys) i ≡ value_at ys i) → (b || is_entered xs i) ≡ false →
        (if b then x.value else value_at (xs ++ ys) i) ≡ value_at ys i
    of true rest none = absurd cc
    of false rest none = rest none

-- where the second list doesn't have an index, the first one tells its value
pub value_at-stop : (xs ys : List Entry) (i : ℕ) → is_entered ys i ≡ false → value_at (xs ++ ys) i ≡ value_at xs i
value_at-stop [] ys i none = value_at-none ys i none
value_at-stop (x ∷ xs) ys i none = ap (λ rest. if i == x.index then x.value else rest) (value_at-stop xs ys i none)

pub is_entered-append : (xs ys : List Entry) (i : ℕ) → is_entered (xs ++ ys) i ≡ (is_entered xs i || is_entered ys i)
is_entered-append [] ys i = refl
is_entered-append (x ∷ xs) ys i = of (i == x.index) (is_entered-append xs ys i)
  where
    of : (b : Bool) → is_entered (xs ++ ys) i ≡ (is_entered xs i || is_entered ys i) →
        (b || is_entered (xs ++ ys) i) ≡ ((b || is_entered xs i) || is_entered ys i)
    of true rest = refl
    of false rest = rest

-- the entries whose index passes a test
abbrev pub filtered : (ℕ → Bool) → List Entry → List Entry
filtered test xs = filter (λ x. test x.index) xs

pub is_entered-filtered : (test : ℕ → Bool) (xs : List Entry) (i : ℕ) → is_entered (filtered test xs) i ≡ (test i && is_entered xs i)
is_entered-filtered test [] i = of (test i)
  where
    of : (b : Bool) → false ≡ (b && false)
    of true = refl
    of false = refl
is_entered-filtered test (x ∷ xs) i = of (bool_cases (test x.index)) (is_entered-filtered test xs i)
  where
    at : (b : Bool) → test x.index ≡ b → (i == x.index) ≡ true → test i ≡ b
    at b known same = ap test (eqb-true i x.index same) ∙ known

    join : (e q r k : Bool) → (e ≡ true → q ≡ true) → k ≡ (q && r) → (e || k) ≡ (q && (e || r))
    join true q r k told rest = rw (told refl) refl
    join false q r k told rest = rest

    skip : (e q r k : Bool) → (e ≡ true → q ≡ false) → k ≡ (q && r) → k ≡ (q && (e || r))
    skip true q r k denied rest = let none : q ≡ false = denied refl in rest ∙ rw none refl
    skip false q r k denied rest = rest

    of : (test x.index ≡ true) ⊎ (test x.index ≡ false) → is_entered (filtered test xs) i ≡ (test i && is_entered xs i) →
        is_entered (cond (test x.index) (x ∷ filtered test xs) (filtered test xs)) i ≡ (test i && ((i == x.index) || is_entered xs i))
    of (inl told) rest = rw told (join (i == x.index) (test i) (is_entered xs i) (is_entered (filtered test xs) i) (at true told) rest)
    of (inr denied) rest = rw denied (skip (i == x.index) (test i) (is_entered xs i) (is_entered (filtered test xs) i) (at false denied) rest)

pub not_entered-filtered : (test : ℕ → Bool) (xs : List Entry) (i : ℕ) → test i ≡ false → is_entered (filtered test xs) i ≡ false
not_entered-filtered test xs i denied = is_entered-filtered test xs i ∙ ap (λ b. b && is_entered xs i) denied

pub value_at-filtered : (test : ℕ → Bool) (xs : List Entry) (i : ℕ) → test i ≡ true → value_at (filtered test xs) i ≡ value_at xs i
value_at-filtered test [] i told = refl
value_at-filtered test (x ∷ xs) i told = of (bool_cases (test x.index)) (value_at-filtered test xs i told)
  where
    skip : (e : Bool) → (e ≡ true → test x.index ≡ true) → test x.index ≡ false → value_at (filtered test xs) i ≡ value_at xs i →
        value_at (filtered test xs) i ≡ (if e then x.value else value_at xs i)
    skip true passes denied rest = absurd (cc (passes refl))
    skip false passes denied rest = rest

    of : (test x.index ≡ true) ⊎ (test x.index ≡ false) → value_at (filtered test xs) i ≡ value_at xs i →
        value_at (cond (test x.index) (x ∷ filtered test xs) (filtered test xs)) i ≡ (if i == x.index then x.value else value_at xs i)
    of (inl here) rest = rw here (ap (λ r. if i == x.index then x.value else r) rest)
    of (inr denied) rest = rw denied (skip (i == x.index) (λ same. sym (ap test (eqb-true i x.index same)) ∙ told) denied rest)

-- kept again by a test that passes no more
pub filtered-again : (test wide : ℕ → Bool) (xs : List Entry) → ((n : ℕ) → test n ≡ true → wide n ≡ true) → filtered test (filtered wide xs) ≡ filtered test xs
filtered-again test wide [] more = refl
filtered-again test wide (x ∷ xs) more = of (bool_cases (wide x.index)) (bool_cases (test x.index)) (filtered-again test wide xs more)
  where
    of : (wide x.index ≡ true) ⊎ (wide x.index ≡ false) → (test x.index ≡ true) ⊎ (test x.index ≡ false) → filtered test (filtered wide xs) ≡ filtered test xs →
        filtered test (cond (wide x.index) (x ∷ filtered wide xs) (filtered wide xs)) ≡ cond (test x.index) (x ∷ filtered test xs) (filtered test xs)
    of (inl told) t rest = rw told (ap (λ r. cond (test x.index) (x ∷ r) r) rest)
    of (inr denied) (inl told) rest = absurd (cc (more x.index told))
    of (inr denied) (inr out) rest = rw (denied, out) rest

-- kept again by a test that passes none of them
pub filtered-none : (test other : ℕ → Bool) (xs : List Entry) → ((n : ℕ) → other n ≡ true → test n ≡ false) → filtered test (filtered other xs) ≡ []
filtered-none test other [] denied = refl
filtered-none test other (x ∷ xs) denied = of (bool_cases (other x.index)) (filtered-none test other xs denied)
  where
    of : (other x.index ≡ true) ⊎ (other x.index ≡ false) → filtered test (filtered other xs) ≡ [] →
        filtered test (cond (other x.index) (x ∷ filtered other xs) (filtered other xs)) ≡ []
    of (inl told) rest = rw (told, denied x.index told) rest
    of (inr out) rest = rw out rest

filtered-entry_of : (test : ℕ → Bool) (index : ℕ) (value : ℤ) → test index ≡ false → filtered test (entry_of index value) ≡ []
filtered-entry_of test index value denied = of (unsigned_abs value == 0)
  where
    of : (b : Bool) → filtered test (if b then [] else record { index = index; value = value } ∷ []) ≡ []
    of true = refl
    of false = rw denied refl

-- tests of order
pub lt-is : (a b : ℕ) → a < b → nat_lt a b ≡ true
lt-is a b less = lt-ltb a b less

pub lt-is-not : (a b : ℕ) → b ≤ a → nat_lt a b ≡ false
lt-is-not a b high = false_from_ne_true (ltb a b) (λ less. omega (arith, high, ltb-true a b less))

pub lt-said : (a b : ℕ) → nat_lt a b ≡ true → a < b
lt-said a b said = ltb-true a b said

pub le-is : (a b : ℕ) → a ≤ b → nat_le a b ≡ true
le-is a b low = grind (arith, nat_tests)

pub le-is-not : (a b : ℕ) → b < a → nat_le a b ≡ false
le-is-not a b high = grind (arith, nat_tests)

pub le-said : (a b : ℕ) → nat_le a b ≡ true → a ≤ b
le-said a b said = grind (arith, nat_tests)

-- a put changes nothing below its index, and nothing above it
abbrev above : ℕ → List Entry → List Entry
above k xs = filter (λ x. nat_lt k x.index) xs

pub below-put : (xs : List Entry) (i k : ℕ) (value : ℤ) → i ≤ k → below i (put_in xs k value) ≡ below i xs
below-put xs i k value low =
    let Low : ℕ → Bool = λ n. nat_lt n i in
    filter-append (λ x. Low x.index) (below k xs) (entry_of k value ++ above k xs)
    ∙ ap (λ r. filtered Low (below k xs) ++ r) (filter-append (λ x. Low x.index) (entry_of k value) (above k xs))
    ∙ ap (λ r. filtered Low (below k xs) ++ (r ++ filtered Low (above k xs))) (filtered-entry_of Low k value (lt-is-not k i low))
    ∙ ap (λ r. filtered Low (below k xs) ++ r) (filtered-none Low (λ n. nat_lt k n) xs (λ n over. lt-is-not n i (omega (arith, low, lt-said k n over))))
    ∙ append-none (filtered Low (below k xs))
    ∙ filtered-again Low (λ n. nat_lt n k) xs (λ n less. lt-is n k (omega (arith, low, lt-said n i less)))
  where
    append-none : (ys : List Entry) → ys ++ [] ≡ ys
    append-none [] = refl
    append-none (y ∷ ys) = ap (λ r. y ∷ r) (append-none ys)

pub from_on-put : (xs : List Entry) (i k : ℕ) (value : ℤ) → k < i → from_on i (put_in xs k value) ≡ from_on i xs
from_on-put xs i k value over =
    let High : ℕ → Bool = λ n. nat_le i n in
    filter-append (λ x. High x.index) (below k xs) (entry_of k value ++ above k xs)
    ∙ ap (λ r. r ++ filtered High (entry_of k value ++ above k xs)) (filtered-none High (λ n. nat_lt n k) xs (λ n less. le-is-not i n (omega (arith, over, lt-said n k less))))
    ∙ filter-append (λ x. High x.index) (entry_of k value) (above k xs)
    ∙ ap (λ r. r ++ filtered High (above k xs)) (filtered-entry_of High k value (le-is-not i k over))
    ∙ filtered-again High (λ n. nat_lt k n) xs (λ n high. lt-is k n (omega (arith, over, le-said i n high)))

-- the value of an index after a put
value_at-entry_of : (k : ℕ) (value : ℤ) → value_at (entry_of k value) k ≡ value
value_at-entry_of k value = of value (bool_cases (unsigned_abs value == 0))
  where
    none : (v : ℤ) → unsigned_abs v ≡ 0 → pos 0 ≡ v
    none (pos n) zeroed = ap pos (omega (arith, zeroed))
    none (negsuc n) zeroed = absurd (omega (arith, zeroed))

    of : (v : ℤ) → ((unsigned_abs v == 0) ≡ true) ⊎ ((unsigned_abs v == 0) ≡ false) → value_at (if unsigned_abs v == 0 then [] else record { index = k; value = v } ∷ []) k ≡ v
    of v (inl told) = rw told (none v (eqb-true (unsigned_abs v) 0 told))
    of v (inr denied) = rw (denied, eq-eqb k k refl) refl

not_entered-entry_of : (k : ℕ) (value : ℤ) (i : ℕ) → (i == k) ≡ false → is_entered (entry_of k value) i ≡ false
not_entered-entry_of k value i other = of (unsigned_abs value == 0)
  where
    of : (b : Bool) → is_entered (if b then [] else record { index = k; value = value } ∷ []) i ≡ false
    of true = refl
    of false = rw other refl

pub value_at-put : (xs : List Entry) (k : ℕ) (value : ℤ) (i : ℕ) → value_at (put_in xs k value) i ≡ (if i == k then value else value_at xs i)
value_at-put xs k value i = of (eqb_tells i k) (cases_lt i k)
  where
    of : ((eqb i k ≡ true) × (i ≡ k)) ⊎ ((eqb i k ≡ false) × (i ≢ k)) → (i < k) ⊎ (k ≤ i) → value_at (put_in xs k value) i ≡ (if i == k then value else value_at xs i)
    of (inl (told, same)) order =
        value_at-skip (below k xs) (entry_of k value ++ above k xs) i (not_entered-filtered (λ n. nat_lt n k) xs i (lt-is-not i k (omega (arith, same))))
        ∙ value_at-stop (entry_of k value) (above k xs) i (not_entered-filtered (λ n. nat_lt k n) xs i (lt-is-not k i (omega (arith, same))))
        ∙ ap (λ n. value_at (entry_of k value) n) same ∙ value_at-entry_of k value ∙ rw told refl
    of (inr (denied, other)) (inl less) =
        value_at-stop (below k xs) (entry_of k value ++ above k xs) i
        (is_entered-append (entry_of k value) (above k xs) i ∙ ap (λ b. b || is_entered (above k xs) i) (not_entered-entry_of k value i denied)
        ∙ not_entered-filtered (λ n. nat_lt k n) xs i (lt-is-not k i (omega (arith, less))))
        ∙ value_at-filtered (λ n. nat_lt n k) xs i (lt-is i k less) ∙ rw denied refl
    of (inr (denied, other)) (inr high) =
        value_at-skip (below k xs) (entry_of k value ++ above k xs) i (not_entered-filtered (λ n. nat_lt n k) xs i (lt-is-not i k high))
        ∙ value_at-skip (entry_of k value) (above k xs) i (not_entered-entry_of k value i denied)
        ∙ value_at-filtered (λ n. nat_lt k n) xs i (lt-is k i (omega (arith, high, other))) ∙ rw denied refl

-- rising entries are those below an index and then those from it on
pub below-none : (xs : List Entry) (i : ℕ) → All (λ x. i ≤ x.index) xs → below i xs ≡ []
below-none [] i high = refl
below-none (x ∷ xs) i high =
    ap (λ b. cond b (x ∷ below i xs) (below i xs)) (lt-is-not x.index i (All-head (λ e. i ≤ e.index) x xs high))
    ∙ below-none xs i (All-tail (λ e. i ≤ e.index) x xs high)

pub from_on-all : (xs : List Entry) (i : ℕ) → All (λ x. i ≤ x.index) xs → from_on i xs ≡ xs
from_on-all [] i high = refl
from_on-all (x ∷ xs) i high =
    ap (λ b. cond b (x ∷ from_on i xs) (from_on i xs)) (le-is i x.index (All-head (λ e. i ≤ e.index) x xs high))
    ∙ ap (λ r. x ∷ r) (from_on-all xs i (All-tail (λ e. i ≤ e.index) x xs high))

pub divided : (xs : List Entry) (i : ℕ) → AreRising xs → below i xs ++ from_on i xs ≡ xs
divided [] i rising = refl
divided (x ∷ xs) i rising = of (cases_lt x.index i) (divided xs i (rising-tail x xs rising))
  where
    of : (x.index < i) ⊎ (i ≤ x.index) → below i xs ++ from_on i xs ≡ xs → below i (x ∷ xs) ++ from_on i (x ∷ xs) ≡ x ∷ xs
    of (inl less) rest =
        ap (λ b. cond b (x ∷ below i xs) (below i xs) ++ from_on i (x ∷ xs)) (lt-is x.index i less)
        ∙ ap (λ b. x ∷ (below i xs ++ cond b (x ∷ from_on i xs) (from_on i xs))) (le-is-not i x.index less)
        ∙ ap (λ r. x ∷ r) rest
    of (inr high) rest =
        let all : All (λ e. i ≤ e.index) (x ∷ xs) = All-cons (λ e. i ≤ e.index) x xs high (λ k d inside. omega (arith, high, rising-head x xs rising k d inside)) in
        ap (λ r. r ++ from_on i (x ∷ xs)) (below-none (x ∷ xs) i all) ∙ from_on-all (x ∷ xs) i all

-- lists whose indices rise, joined
pub rising-join : (xs ys : List Entry) (k : ℕ) → AreRising xs → AreRising ys → All (λ x. x.index < k) xs → All (λ y. k ≤ y.index) ys → AreRising (xs ++ ys)
rising-join [] ys k first second low high = second
rising-join (x ∷ xs) ys k first second low high =
    let less : x.index < k = All-head (λ e. e.index < k) x xs low in
    rising-cons x (xs ++ ys)
    (All-append (λ e. x.index < e.index) xs ys (rising-head x xs first) (λ j d inside. omega (arith, less, high j d inside)))
    (rising-join xs ys k (rising-tail x xs first) second (All-tail (λ e. e.index < k) x xs low) high)

pub rising-filtered : (test : ℕ → Bool) (xs : List Entry) → AreRising xs → AreRising (filtered test xs)
rising-filtered test xs rising = AllPairs-filter (λ a b. a.index < b.index) (λ x. test x.index) xs rising

pub all_below : (xs : List Entry) (i : ℕ) → All (λ x. x.index < i) (below i xs)
all_below xs i = λ k d inside. lt-said (get_or (below i xs) k d).index i (filter_passes (λ x. nat_lt x.index i) xs k d inside)

pub all_from_on : (xs : List Entry) (i : ℕ) → All (λ x. i ≤ x.index) (from_on i xs)
all_from_on xs i = λ k d inside. le-said i (get_or (from_on i xs) k d).index (filter_passes (λ x. nat_le i x.index) xs k d inside)

all_above : (xs : List Entry) (i : ℕ) → All (λ x. i + 1 ≤ x.index) (above i xs)
all_above xs i = λ k d inside. omega (arith, lt-said i (get_or (above i xs) k d).index (filter_passes (λ x. nat_lt i x.index) xs k d inside))

pub rising-put : (xs : List Entry) (k : ℕ) (value : ℤ) → AreRising xs → AreRising (put_in xs k value)
rising-put xs k value rising =
    rising-join (below k xs) (entry_of k value ++ above k xs) k (rising-filtered (λ n. nat_lt n k) xs rising) (from (unsigned_abs value == 0)) (all_below xs k) (high (unsigned_abs value == 0))
  where
    one : Entry
    one = record { index = k; value = value }

    from : (b : Bool) → AreRising ((if b then [] else one ∷ []) ++ above k xs)
    from true = rising-filtered (λ n. nat_lt k n) xs rising
    from false = rising-cons one (above k xs) (λ j d inside. omega (arith, all_above xs k j d inside)) (rising-filtered (λ n. nat_lt k n) xs rising)

    high : (b : Bool) → All (λ y. k ≤ y.index) ((if b then [] else one ∷ []) ++ above k xs)
    high true = λ j d inside. omega (arith, all_above xs k j d inside)
    high false = All-cons (λ y. k ≤ y.index) one (above k xs) (omega arith) (λ j d inside. omega (arith, all_above xs k j d inside))

-- rising entries are divided where those before a place have lower indices, and the one at it has none
pub divided-at : (entries : List Entry) (i place : ℕ) → AreRising entries → place ≤ length entries → ((k : ℕ) (d : Entry) → k < place → (get_or entries k d).index < i) →
    (place < length entries → (d : Entry) → i ≤ (get_or entries place d).index) → AreDividedAt entries i place
divided-at [] i zero rising within low high = record { within = within; before = refl; after = refl }
divided-at [] i (suc place) rising within low high = absurd (omega (arith, within))
divided-at (x ∷ xs) i zero rising within low high =
    let all : All (λ e. i ≤ e.index) (x ∷ xs) = All-cons (λ e. i ≤ e.index) x xs (high (omega arith) x) (λ k d inside. omega (arith, high (omega arith) x, rising-head x xs rising k d inside)) in
    record { within = within; before = sym (below-none (x ∷ xs) i all); after = sym (from_on-all (x ∷ xs) i all) }
divided-at (x ∷ xs) i (suc place) rising within low high =
    let less : x.index < i = low 0 x (omega arith) in
    let rest : AreDividedAt xs i place =
    divided-at xs i place (rising-tail x xs rising) (omega (arith, within)) (λ k d before. low (suc k) d (omega (arith, before))) (λ inside d. high (omega (arith, inside)) d) in
    record {
      within = within;
      before = ap (λ r. x ∷ r) rest.before ∙ sym (ap (λ b. cond b (x ∷ below i xs) (below i xs)) (lt-is x.index i less));
      after = rest.after ∙ sym (ap (λ b. cond b (x ∷ from_on i xs) (from_on i xs)) (le-is-not i x.index less));
    }
