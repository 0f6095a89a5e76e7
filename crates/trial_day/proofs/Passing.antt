-- Tests of which none failed, and what holds of each row of a table that is made row by row.
use Rattle.std.proofs.Common.{◌≡◌, inl, inr, ℕ, zero, suc, ◌*◌, ◌<◌, ◌≤◌, Bool, true, false, cond, List, [], ◌∷◌, ◌++◌}
use Rattle.std.proofs.Common.{length, refl, sym, subst, append_assoc, append-nil, arith, length-append, Some, slice_get}
use Rattle.std.specs.List.{All, Any, Contains, filter}
use Rattle.std.proofs.lemmas.Bool.{cases_lt}
use Rattle.std.proofs.lemmas.List.Elements.{All-nil, All-append, All-from_recursion, All-push, Contains-append_left}
use Rattle.std.proofs.lemmas.List.Elements.{Contains-append_right}
use Rattle.std.proofs.lemmas.Option.{slice_get_within, get_or_from_slice_get}
use Rattle.rail_base.specs.Answers.{Unless}
use Rattle.day_tables.specs.declared.building.refusal.InstanceRefusal.{InstanceRefusal}
use Rattle.day_tables.specs.declared.building.refusal.InstanceRefusal.TheVariants.{NoMemory}
use Rattle.timetable.specs.Build.{is_memory}
use Rattle.timetable.specs.Lists.{listed, joined}
use Rattle.timetable.specs.Rowwise.{row_after}
use Rattle.timetable.specs.Tests.{Test, NoneFailed, IsFirstFailed, row_tests}

-- ---- tests

pub none_then : {E : Type 0} (tests others : List (Test E)) → NoneFailed tests → NoneFailed others → NoneFailed (tests ++ others)
none_then [] others none rest = rest
none_then (test ∷ tests) others none rest = (none.0, none_then tests others none.1 rest)

none_parts : {E : Type 0} (tests others : List (Test E)) → NoneFailed (tests ++ others) → NoneFailed tests × NoneFailed others
none_parts [] others none = (tt, none)
none_parts (test ∷ tests) others none = let (first, rest) = none_parts tests others none.1 in ((none.0, first), rest)

-- none failed, so no refusal is that of the first that did
pub none_refused : {E : Type 0} (tests : List (Test E)) (refusal : E) → NoneFailed tests → IsFirstFailed tests refusal → ⊥
none_refused [] refusal none first = first
none_refused (test ∷ tests) refusal none first = elim first [
  | inl here ↦ none.0 here.0
  | inr later ↦ none_refused tests refusal none.1 later.1
]

-- a row more
pub none_push : {X E : Type 0} (tests_of : ℕ → List X → X → List (Test E)) (before rows : List X) (row : X) → NoneFailed (row_tests tests_of before rows)
    → NoneFailed (tests_of (row_after (before ++ rows)) (before ++ rows) row) → NoneFailed (row_tests tests_of before (rows ++ row ∷ []))
none_push {X} tests_of before [] row none here =
    none_then (tests_of (row_after before) before row) [] (subst (λ (front : List X). NoneFailed (tests_of (row_after front) front row)) (append-nil before) here) tt
none_push {X} tests_of before (first ∷ rows) row none here =
    let (now, later) = none_parts (tests_of (row_after before) before first) (row_tests tests_of (before ++ first ∷ []) rows) none in
    none_then (tests_of (row_after before) before first) (row_tests tests_of (before ++ first ∷ []) (rows ++ row ∷ [])) now
    (none_push tests_of (before ++ first ∷ []) rows row later (subst (λ (front : List X). NoneFailed (tests_of (row_after front) front row)) (sym (append_assoc before (first ∷ []) rows)) here))

-- each row of a list that is made of the numbers below a bound
pub none_listed : {X E : Type 0} (tests_of : ℕ → List X → X → List (Test E)) (f : ℕ → X) (n : ℕ)
    → ((k : ℕ) → k < n → NoneFailed (tests_of (row_after (listed f k)) (listed f k) (f k))) → NoneFailed (row_tests tests_of [] (listed f n))
none_listed tests_of f zero each = tt
none_listed tests_of f (suc n) each = none_push tests_of [] (listed f n) (f n) (none_listed tests_of f n (λ k below. each k (omega arith))) (each n (omega arith))

-- the same of two rows for each number
pub none_paired : {X E : Type 0} (tests_of : ℕ → List X → X → List (Test E)) (first second : ℕ → X) (n : ℕ)
    → ((k : ℕ) → k < n → (front : List X) → front ≡ joined (λ i. first i ∷ second i ∷ []) k → NoneFailed (tests_of (row_after front) front (first k)))
    → ((k : ℕ) → k < n → (front : List X) → front ≡ joined (λ i. first i ∷ second i ∷ []) k ++ first k ∷ [] → NoneFailed (tests_of (row_after front) front (second k)))
    → NoneFailed (row_tests tests_of [] (joined (λ i. first i ∷ second i ∷ []) n))
none_paired tests_of first second zero each other = tt
none_paired {X} tests_of first second (suc n) each other =
    let front : List X = joined (λ i. first i ∷ second i ∷ []) n in
    let so_far = none_paired tests_of first second n (λ k below. each k (omega arith)) (λ k below. other k (omega arith)) in
    let one = none_push tests_of [] front (first n) so_far (each n (omega arith) front refl) in
    let two = none_push tests_of [] (front ++ first n ∷ []) (second n) one (other n (omega arith) (front ++ first n ∷ []) refl) in
    subst (λ (rows : List X). NoneFailed (row_tests tests_of [] rows)) (append_assoc front (first n ∷ []) (second n ∷ [])) two

-- ---- rows

pub not_any : {X : Type 0} (P : X → Type 0) (xs : List X) → All (λ x. ¬ P x) xs → ¬ Any P xs
not_any P xs none (k, x, below, is, has) = none k x below (subst P (sym is) has)

pub all_at : {X : Type 0} (P : X → Type 0) (xs : List X) (i : ℕ) (x : X) → All P xs → slice_get xs i ≡ Some x → P x
all_at P xs i x all at = subst P (get_or_from_slice_get xs i x x at) (all i x (slice_get_within xs i x at))

pub all_listed : {X : Type 0} (P : X → Type 0) (f : ℕ → X) (n : ℕ) → ((k : ℕ) → k < n → P (f k)) → All P (listed f n)
all_listed P f zero each = All-nil P
all_listed P f (suc n) each = All-push P (listed f n) (f n) (all_listed P f n (λ k below. each k (omega arith))) (each n (omega arith))

pub all_joined : {X : Type 0} (P : X → Type 0) (f : ℕ → List X) (n : ℕ) → ((k : ℕ) → k < n → All P (f k)) → All P (joined f n)
all_joined P f zero each = All-nil P
all_joined P f (suc n) each = All-append P (joined f n) (f n) (all_joined P f n (λ k below. each k (omega arith))) (each n (omega arith))

-- the same of two rows for each number
pub all_paired : {X : Type 0} (P : X → Type 0) (first second : ℕ → X) (n : ℕ) → ((k : ℕ) → k < n → P (first k)) → ((k : ℕ) → k < n → P (second k)) → All P (joined (λ i. first i ∷ second i ∷ []) n)
all_paired P first second n each other = all_joined P (λ i. first i ∷ second i ∷ []) n (λ k below. All-from_recursion P (first k ∷ second k ∷ []) (each k below, (other k below, tt)))

pub in_joined : {X : Type 0} (f : ℕ → List X) (n k : ℕ) (x : X) → k < n → Contains (f k) x → Contains (joined f n) x
in_joined f zero k x below here = absurd (omega arith)
in_joined f (suc n) k x below here = elim (cases_lt k n) [
  | inl before ↦ Contains-append_left (joined f n) (f n) x (in_joined f n k x before here)
  | inr last ↦
      let same : k ≡ n = omega arith in
      Contains-append_right (joined f n) (f n) x (subst (λ (i : ℕ). Contains (f i) x) same here)
]

-- ---- lengths

pub length-pairs : {X : Type 0} (first second : ℕ → X) (n : ℕ) → length (joined (λ i. first i ∷ second i ∷ []) n) ≡ 2 * n
length-pairs first second zero = refl
length-pairs first second (suc n) = omega (arith, length-append (joined (λ i. first i ∷ second i ∷ []) n) (first n ∷ second n ∷ []), length-pairs first second n)

pub length-filter-le : {X : Type 0} (p : X → Bool) (xs : List X) → length (filter p xs) ≤ length xs
length-filter-le p [] = omega arith
length-filter-le {X} p (x ∷ xs) = kept (p x) (filter p xs) (length-filter-le p xs)
  where
    kept : (b : Bool) (ys : List X) → length ys ≤ length xs → length (cond b (x ∷ ys) ys) ≤ suc (length xs)
    kept true ys few = omega arith
    kept false ys few = omega arith

-- ---- refusals

-- where no test failed, nothing but want of memory refuses
pub only_memory : (tests : List (Test InstanceRefusal)) (refusal : InstanceRefusal) → NoneFailed tests → Unless (is_memory refusal) (IsFirstFailed tests refusal) → refusal ≡ NoMemory
only_memory tests NoMemory none why = refl
only_memory tests refusal none why = absurd (none_refused tests refusal none why)
