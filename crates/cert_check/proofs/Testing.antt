-- Tests in their order, one list after another.
use Rattle.std.proofs.Common.{List, [], ◌∷◌, ◌++◌, inl, inr}
use Rattle.cert_check.specs.declared.verdict.Reason.{Reason}
use Rattle.cert_check.specs.Tests.{Test, NoneFails, FirstFails}

pub none_append : (tests more : List Test) → NoneFails tests → NoneFails more → NoneFails (tests ++ more)
none_append [] more none rest = rest
none_append (test ∷ tests) more none rest = (none.0, none_append tests more none.1 rest)

pub first_front : (tests more : List Test) (reason : Reason) → FirstFails tests reason → FirstFails (tests ++ more) reason
first_front [] more reason first = absurd first
first_front (test ∷ tests) more reason first = elim first [
  | inl here ↦ inl here
  | inr later ↦ inr (later.0, first_front tests more reason later.1)
]

pub first_behind : (tests more : List Test) (reason : Reason) → NoneFails tests → FirstFails more reason → FirstFails (tests ++ more) reason
first_behind [] more reason none first = first
first_behind (test ∷ tests) more reason none first = inr (none.0, first_behind tests more reason none.1 first)

-- none fails, or one is the first
pub not_both : (tests : List Test) (reason : Reason) → NoneFails tests → FirstFails tests reason → ⊥
not_both [] reason none first = first
not_both (test ∷ tests) reason none first = elim first [
  | inl here ↦ none.0 reason here
  | inr later ↦ not_both tests reason none.1 later.1
]
