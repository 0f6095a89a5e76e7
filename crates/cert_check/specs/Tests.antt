-- Tests in their order: that none is failed, or the reason of the first that is.
use Rattle.std.specs.Prelude.{◌⊎◌, List, [], ◌∷◌, ⊤}
use Rattle.cert_check.specs.declared.verdict.Reason.{Reason}

-- a test says for which reason it is failed
abbrev pub Test : Type 1
Test = Reason → Type 0

-- a test is failed for no reason
abbrev pub IsPassed : Test → Type 0
IsPassed test = (reason : Reason) → ¬ test reason

abbrev pub NoneFails : List Test → Type 0
NoneFails [] = ⊤
NoneFails (test ∷ tests) = IsPassed test × NoneFails tests

-- the reason is that of the first test that is failed
abbrev pub FirstFails : List Test → Reason → Type 0
FirstFails [] reason = ⊥
FirstFails (test ∷ tests) reason = test reason ⊎ (IsPassed test × FirstFails tests reason)
