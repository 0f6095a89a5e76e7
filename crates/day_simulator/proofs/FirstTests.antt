-- What tests in their order come to, where each may tell a fault.
use Rattle.std.proofs.Common.{◌≡◌, inl, inr, List, [], ◌∷◌, ◌++◌, Bool, true, false, not, cond, Option, Some, None, refl}
use Rattle.std.proofs.Common.{sym, ap, ◌∙◌, subst, ⊎_elim}
use Rattle.timetable.specs.Tests.{Test, NoneFailed, IsFirstFailed}
use Rattle.day_simulator.specs.StepTests.{IsToldBy}

-- no fault where none failed, or the fault of the first that did
unfoldable pub Tested : {E : Type 0} → List (Test E) → Option E → Type 0
Tested tests None = NoneFailed tests
Tested tests (Some fault) = IsFirstFailed tests fault

-- no test is left
pub tested_none : (E : Type 0) → Tested {E = E} [] None
unfolding Tested
tested_none E = tt

module _ {E : Type 0} where
  -- the first test fails
  pub tested_failed : (test : Test E) (tests : List (Test E)) → test.fault → Tested (test ∷ tests) (Some test.refusal)
  unfolding Tested
  tested_failed test tests fails = inl (fails, refl)

  -- a test that did not fail, and those behind it
  pub tested_passed : (test : Test E) (tests : List (Test E)) (fault : Option E) → (¬ test.fault) → Tested tests fault → Tested (test ∷ tests) fault
  unfolding Tested
  tested_passed test tests None passes rest = (passes, rest)
  tested_passed test tests (Some e) passes rest = inr (passes, rest)

  -- a test that fails where something is so, or where it is not
  pub tested_unless : (test : Test E) (tests : List (Test E)) (b : Bool) (fault : Option E) → (b ≡ true → test.fault) → (b ≡ false → ¬ test.fault) → (b ≡ false → Tested tests fault)
      → Tested (test ∷ tests) (cond b (Some test.refusal) fault)
  tested_unless test tests true fault fails passes rest = tested_failed test tests (fails refl)
  tested_unless test tests false fault fails passes rest = tested_passed test tests fault (passes refl) (rest refl)

  pub tested_where : (test : Test E) (tests : List (Test E)) (b : Bool) (fault : Option E) → (b ≡ false → test.fault) → (b ≡ true → ¬ test.fault) → (b ≡ true → Tested tests fault)
      → Tested (test ∷ tests) (cond (not b) (Some test.refusal) fault)
  tested_where test tests true fault fails passes rest = tested_passed test tests fault (passes refl) (rest refl)
  tested_where test tests false fault fails passes rest = tested_failed test tests (fails refl)

  -- tests of which one failed, and tests behind them
  pub tested_before : (tests tests' : List (Test E)) (e : E) → Tested tests (Some e) → Tested (tests ++ tests') (Some e)
  unfolding Tested
  tested_before [] tests' e first = absurd first
  tested_before (test ∷ tests) tests' e first =
      ⊎_elim (λ (here : test.fault × (e ≡ test.refusal)). inl here) (λ (later : (¬ test.fault) × IsFirstFailed tests e). inr (later.0, tested_before tests tests' e later.1)) first

  -- tests of which none failed, and tests behind them
  pub tested_behind : (tests tests' : List (Test E)) (fault : Option E) → Tested {E = E} tests None → Tested tests' fault → Tested (tests ++ tests') fault
  unfolding Tested
  tested_behind [] tests' fault none rest = rest
  tested_behind (test ∷ tests) tests' fault none rest = tested_passed test (tests ++ tests') fault none.0 (tested_behind tests tests' fault none.1 rest)

  -- ---- what is told

  not_both : (tests : List (Test E)) (e : E) → NoneFailed tests → IsFirstFailed tests e → ⊥
  not_both [] e none first = first
  not_both (test ∷ tests) e none first =
      ⊎_elim (λ (here : test.fault × (e ≡ test.refusal)). none.0 here.0) (λ (later : (¬ test.fault) × IsFirstFailed tests e). not_both tests e none.1 later.1) first

  one_first : (tests : List (Test E)) (d e : E) → IsFirstFailed tests d → IsFirstFailed tests e → d ≡ e
  one_first [] d e first first' = absurd first
  one_first (test ∷ tests) d e first first' =
      ⊎_elim
      (λ (h : test.fault × (d ≡ test.refusal)). ⊎_elim (λ (k : test.fault × (e ≡ test.refusal)). h.1 ∙ sym k.1) (λ (k : (¬ test.fault) × IsFirstFailed tests e). absurd (k.0 h.0)) first')
      (λ (h : (¬ test.fault) × IsFirstFailed tests d). ⊎_elim (λ (k : test.fault × (e ≡ test.refusal)). absurd (h.0 k.0)) (λ (k : (¬ test.fault) × IsFirstFailed tests e). one_first tests d e h.1 k.1) first')
      first

  same_some : (d e : E) → ◌≡◌ {A = Option E} (Some d) (Some e) → d ≡ e
  same_some d e h = cc

  pub told : (tests : List (Test E)) (fault : Option E) → Tested tests fault → IsToldBy tests fault
  unfolding Tested
  told tests None none = record {
    none = ((λ _. none), (λ _. refl));
    first = λ e. ((λ is. absurd cc), (λ first. absurd (not_both tests e none first)));
  }
  told tests (Some d) first = record {
    none = ((λ is. absurd cc), (λ none. absurd (not_both tests d none first)));
    first = λ e. ((λ is. subst (IsFirstFailed tests) (same_some d e is) first), (λ other. let same : d ≡ e = one_first tests d e first other in ap (λ (x : E). Some x) same));
  }
