-- Tests in their order, one list after another.
use Rattle.std.proofs.Common.{◌≡◌, List, [], ◌∷◌, ◌++◌, inl, inr}
use Rattle.std.specs.Prelude.{⊤}
use Rattle.fleet_check.specs.declared.verdict.FleetVerdict.{FleetVerdict}
use Rattle.fleet_check.specs.declared.verdict.FleetVerdict.TheVariants.{Valid}
use Rattle.fleet_check.specs.declared.verdict.Stop.{Stop}
use Rattle.fleet_check.specs.declared.verdict.Stop.TheVariants.{Found, NoMemory}
use Rattle.fleet_check.specs.Tests.{FirstFails, NoneFails, StopsAt, Test}

pub none_append : (tests more : List Test) → NoneFails tests → NoneFails more → NoneFails (tests ++ more)
none_append [] more none rest = rest
none_append (test ∷ tests) more none rest = (none.0, none_append tests more none.1 rest)

pub first_front : (tests more : List Test) (verdict : FleetVerdict) → FirstFails tests verdict → FirstFails (tests ++ more) verdict
first_front [] more verdict first = absurd first
first_front (test ∷ tests) more verdict first = elim first [
  | inl here ↦ inl here
  | inr later ↦ inr (later.0, first_front tests more verdict later.1)
]

pub first_behind : (tests more : List Test) (verdict : FleetVerdict) → NoneFails tests → FirstFails more verdict → FirstFails (tests ++ more) verdict
first_behind [] more verdict none first = first
first_behind (test ∷ tests) more verdict none first = inr (none.0, first_behind tests more verdict none.1 first)

-- a check that stops at one of the tests stops at one of them and more
pub stops_front : (tests more : List Test) (stop : Stop) → StopsAt tests stop → StopsAt (tests ++ more) stop
stops_front tests more (Found verdict) stops = first_front tests more verdict stops
stops_front tests more NoMemory stops = tt

-- and one that passes the first of them and stops at one of the others
pub stops_behind : (tests more : List Test) (stop : Stop) → NoneFails tests → StopsAt more stop → StopsAt (tests ++ more) stop
stops_behind tests more (Found verdict) none stops = first_behind tests more verdict none stops
stops_behind tests more NoMemory none stops = tt

-- none fails, or one is the first
pub not_both : (tests : List Test) (verdict : FleetVerdict) → NoneFails tests → FirstFails tests verdict → ⊥
not_both [] verdict none first = first
not_both (test ∷ tests) verdict none first = elim first [
  | inl here ↦ none.0 verdict here
  | inr later ↦ not_both tests verdict none.1 later.1
]

-- ---- what is so of all tests of a list

abbrev pub Each : (Test → Type 0) → List Test → Type 0
Each P [] = ⊤
Each P (test ∷ tests) = P test × Each P tests

pub each_append : (P : Test → Type 0) (tests more : List Test) → Each P tests → Each P more → Each P (tests ++ more)
each_append P [] more each rest = rest
each_append P (test ∷ tests) more each rest = (each.0, each_append P tests more each.1 rest)

-- a test is failed for one verdict at most, which is not that all is valid
pub record IsOne (test : Test) : Type 0 where
  pub one : (verdict other : FleetVerdict) → test verdict → test other → verdict ≡ other
  pub wrong : ¬ test Valid

pub first_is_one : (tests : List Test) (one other : FleetVerdict) → Each IsOne tests → FirstFails tests one → FirstFails tests other → one ≡ other
first_is_one [] one other are a b = absurd a
first_is_one (test ∷ tests) one other are a b = elim a [
  | inl here ↦ elim b [
    | inl there ↦ are.0.one one other here there
    | inr later ↦ absurd (later.0 one here)
  ]
  | inr later ↦ elim b [
    | inl there ↦ absurd (later.0 other there)
    | inr more ↦ first_is_one tests one other are.1 later.1 more.1
  ]
]

pub never_valid : (tests : List Test) → Each IsOne tests → FirstFails tests Valid → ⊥
never_valid [] are first = first
never_valid (test ∷ tests) are first = elim first [
  | inl here ↦ are.0.wrong here
  | inr later ↦ never_valid tests are.1 later.1
]
