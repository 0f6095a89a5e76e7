-- What tests in their order come to, step by step.
use Rattle.std.proofs.Common.{◌≡◌, inl, inr, ℕ, zero, suc, ◌+◌, Bool, true, false, List, [], ◌∷◌, ◌++◌, length, refl}
use Rattle.std.proofs.Common.{sym, ap, subst, arith, Option, Some, None, Result, Ok, Err, cond}
use Rattle.std.specs.Prelude.{◌||◌}
use Rattle.std.specs.List.{AllZip, Any, list_any}
use Rattle.rail_base.specs.Answers.{◌>>=◌}
use Rattle.day_tables.specs.declared.building.refusal.InstanceRefusal.{InstanceRefusal}
use Rattle.day_tables.specs.NamedEntries.{found_or}
use Rattle.day_tables.specs.Rowwise.{row_after, accept_each}
use Rattle.day_tables.specs.Tests.{Test, NoneFailed, IsFirstFailed, row_tests}
use Rattle.day_tables.proofs.Accepting.{zip_push}

-- an answer where none failed, or the refusal of the first that did
unfoldable pub Outcome : {X E : Type 0} → List (Test E) → Result X E → Type 0
Outcome tests (Ok x) = NoneFailed tests
Outcome tests (Err e) = IsFirstFailed tests e

pub all_passed : {X E : Type 0} (tests : List (Test E)) (x : X) → Outcome tests (Ok x) → NoneFailed tests
unfolding Outcome
all_passed tests x none = none

pub first_of_failed : {E : Type 0} (X : Type 0) (tests : List (Test E)) (e : E) → Outcome {X = X} tests (Err e) → IsFirstFailed tests e
unfolding Outcome
first_of_failed X tests e first = first

-- no test is left
pub outcome_ok : {X : Type 0} (E : Type 0) (x : X) → Outcome {X = X} {E = E} [] (Ok x)
unfolding Outcome
outcome_ok E x = tt

-- the first test fails
pub outcome_err : {E : Type 0} (X : Type 0) (test : Test E) (tests : List (Test E)) → test.fault → Outcome {X = X} (test ∷ tests) (Err test.refusal)
unfolding Outcome
outcome_err X test tests fault = inl (fault, refl)

-- a test that did not fail, and those behind it
pub outcome_passed : {X E : Type 0} (test : Test E) (tests : List (Test E)) (r : Result X E) → (¬ test.fault) → Outcome tests r → Outcome (test ∷ tests) r
unfolding Outcome
outcome_passed test tests (Ok x) not rest = (not, rest)
outcome_passed test tests (Err e) not rest = inr (not, rest)

-- a test that refuses where it fails
pub outcome_guard : {X E : Type 0} (test : Test E) (tests : List (Test E)) (b : Bool) (r : Result X E) → (b ≡ true → test.fault) → (b ≡ false → ¬ test.fault) → (b ≡ false → Outcome tests r)
    → Outcome (test ∷ tests) (cond b (Err test.refusal) r)
unfolding Outcome
outcome_guard test tests true r fails passes rest = inl (fails refl, refl)
outcome_guard test tests false r fails passes rest = outcome_passed test tests r (passes refl) (rest refl)

pub outcome_choice : {X E : Type 0} (test : Test E) (tests : List (Test E)) (b : Bool) (r : Result X E) → (b ≡ false → test.fault) → (b ≡ true → ¬ test.fault) → (b ≡ true → Outcome tests r)
    → Outcome (test ∷ tests) (cond b r (Err test.refusal))
unfolding Outcome
outcome_choice test tests true r fails passes rest = outcome_passed test tests r (passes refl) (rest refl)
outcome_choice test tests false r fails passes rest = inl (fails refl, refl)

-- a number that is found, or refused
pub outcome_found : {X : Type 0} (test : Test InstanceRefusal) (tests : List (Test InstanceRefusal)) (o : Option ℕ) (next : ℕ → Result X InstanceRefusal)
    → (o ≡ None → test.fault) → ((n : ℕ) → o ≡ Some n → ¬ test.fault) → ((n : ℕ) → o ≡ Some n → Outcome tests (next n)) → Outcome (test ∷ tests) (found_or o test.refusal >>= next)
unfolding Outcome
outcome_found test tests (Some n) next fails passes rest = outcome_passed test tests (next n) (passes n refl) (rest n refl)
outcome_found test tests None next fails passes rest = inl (fails refl, refl)

-- ---- one list of tests after another

first_in_front : {E : Type 0} (tests tests' : List (Test E)) (e : E) → IsFirstFailed tests e → IsFirstFailed (tests ++ tests') e
first_in_front [] tests' e first = absurd first
first_in_front (test ∷ tests) tests' e first = elim first [
  | inl here ↦ inl here
  | inr later ↦ inr (later.0, first_in_front tests tests' e later.1)
]

behind : {X E : Type 0} (tests tests' : List (Test E)) (r : Result X E) → NoneFailed tests → Outcome tests' r → Outcome (tests ++ tests') r
unfolding Outcome
behind [] tests' r none rest = rest
behind (test ∷ tests) tests' r none rest = outcome_passed test (tests ++ tests') r none.0 (behind tests tests' r none.1 rest)

pub outcome_then : {X Y E : Type 0} (tests tests' : List (Test E)) (r : Result X E) (next : X → Result Y E) → Outcome tests r → ((x : X) → r ≡ Ok x → Outcome tests' (next x)) → Outcome (tests ++ tests') (r >>= next)
unfolding Outcome
outcome_then tests tests' (Ok x) next none rest = behind tests tests' (next x) none (rest x refl)
outcome_then tests tests' (Err e) next first rest = first_in_front tests tests' e first

-- no test is left
pub outcome_made : {X Y E : Type 0} (tests : List (Test E)) (r : Result X E) (make : X → Y) → Outcome tests r → Outcome tests (r >>= (λ x. Ok (make x)))
unfolding Outcome
outcome_made tests (Ok x) make none = none
outcome_made tests (Err e) make first = first

-- ---- rows

pub length-zip : {A B : Type 0} (R : A → B → Type 0) (xs : List A) (ys : List B) → AllZip R xs ys → length ys ≡ length xs
length-zip R [] [] all = refl
length-zip R [] (b ∷ ys) all = absurd all
length-zip R (a ∷ xs) [] all = absurd all
length-zip R (a ∷ xs) (b ∷ ys) all = ap suc (length-zip R xs ys all.1)

-- rows that are accepted one after another, each by its tests
pub outcome_each : {A B E : Type 0} (accept : List B → A → Result B E) (tests_of : ℕ → List A → A → List (Test E)) (R : A → B → Type 0)
    → ((entries : List B) (row : A) (b : B) → accept entries row ≡ Ok b → R row b)
    → ((front : List A) (entries : List B) (row : A) → AllZip R front entries → Outcome (tests_of (row_after entries) front row) (accept entries row))
    → (front : List A) (entries : List B) (rows : List A) → AllZip R front entries → Outcome (row_tests tests_of front rows) (accept_each accept entries rows)
unfolding Outcome
outcome_each accept tests_of R of_row each front entries [] all = tt
outcome_each accept tests_of R of_row each front entries (row ∷ rows) all =
    let number : row_after entries ≡ row_after front = ap (λ (n : ℕ). n + 1) (length-zip R front entries all) in
    outcome_then (tests_of (row_after front) front row) (row_tests tests_of (front ++ row ∷ []) rows) (accept entries row) (λ b. accept_each accept (entries ++ b ∷ []) rows)
    (subst (λ (n : ℕ). Outcome (tests_of n front row) (accept entries row)) number (each front entries row all))
    (λ b is. outcome_each accept tests_of R of_row each (front ++ row ∷ []) (entries ++ b ∷ []) rows (zip_push R front entries row b all (of_row entries row b is)))

-- a row that has something gives an entry that passes a test
pub any_entries : {A B : Type 0} (R : A → B → Type 0) (p : B → Bool) (P : A → Type 0) → ((a : A) (b : B) → R a b → P a → p b ≡ true)
    → (front : List A) (entries : List B) → AllZip R front entries → Any P front → list_any p entries ≡ true
any_entries R p P step [] [] all (k, x, below, is, has) = absurd (omega arith)
any_entries R p P step [] (b ∷ bs) all some = absurd all
any_entries R p P step (a ∷ rest) [] all some = absurd all
any_entries {A} R p P step (a ∷ rest) (b ∷ bs) all (zero, x, below, is, has) = or_left (p b) (list_any p bs) (step a b all.0 (subst P (sym is) has))
  where
    or_left : (x y : Bool) → x ≡ true → (x || y) ≡ true
    or_left true y e = refl
    or_left false y e = absurd cc
any_entries R p P step (a ∷ rest) (b ∷ bs) all (suc k, x, below, is, has) = or_right (p b) (list_any p bs) (any_entries R p P step rest bs all.1 (k, x, omega arith, is, has))
  where
    or_right : (x y : Bool) → y ≡ true → (x || y) ≡ true
    or_right true y e = refl
    or_right false y e = e
