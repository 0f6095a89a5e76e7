-- Tests in their order: that none is failed, or the verdict of the first that is.
use Rattle.std.specs.Prelude.{◌≡◌, ◌⊎◌, List, [], ◌∷◌, ⊤}
use Rattle.fleet_check.specs.declared.verdict.FleetVerdict.{FleetVerdict}
use Rattle.fleet_check.specs.declared.verdict.Stop.{Stop}
use Rattle.fleet_check.specs.declared.verdict.Stop.TheVariants.{Found, NoMemory}

-- a test says for which verdict it is failed
abbrev pub Test : Type 1
Test = FleetVerdict → Type 0

-- a test is failed for no verdict
abbrev pub IsPassed : Test → Type 0
IsPassed test = (verdict : FleetVerdict) → ¬ test verdict

abbrev pub NoneFails : List Test → Type 0
NoneFails [] = ⊤
NoneFails (test ∷ tests) = IsPassed test × NoneFails tests

-- the verdict is that of the first test that is failed
abbrev pub FirstFails : List Test → FleetVerdict → Type 0
FirstFails [] verdict = ⊥
FirstFails (test ∷ tests) verdict = test verdict ⊎ (IsPassed test × FirstFails tests verdict)

-- a check stops at the first test that is failed, or for want of memory
abbrev pub StopsAt : List Test → Stop → Type 0
StopsAt tests (Found verdict) = FirstFails tests verdict
StopsAt tests NoMemory = Unit {0}

-- a check stops with a verdict where a fact does not hold, or for want of memory
abbrev pub StopsWith : FleetVerdict → Type 0 → Stop → Type 0
StopsWith verdict fact (Found found) = (found ≡ verdict) × (¬ fact)
StopsWith verdict fact NoMemory = Unit {0}
