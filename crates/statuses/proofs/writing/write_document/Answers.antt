use Rattle.std.proofs.Common.{ℕ, Result, refl, subst, sym}
use Rattle.std.specs.Global.{Vec}
use Rattle.rail_base.specs.declared.memory.NoMemory.{NoMemory}
use Rattle.statuses.specs.Written.{IsTextOf, Part, Whole}
use Rattle.statuses.proofs.writing.write_document.Goals as goal

pub returns-in-Ok-write_all-clause-wrote : goal.returns-in-Ok-write_all-clause-wrote
returns-in-Ok-write_all-clause-wrote g c =
    Whole c.as_slice.result.now (subst (λ (document : Result (Vec ℕ) NoMemory). IsTextOf document c.as_slice.result.now) (sym c.in-Ok.is) c.as_slice.ensures.value)
    c.in-Ok-write_all.ensures.whole refl

pub returns-clause-wrote : goal.returns-clause-wrote
returns-clause-wrote g c =
    Part c.as_slice.result.now (subst (λ (document : Result (Vec ℕ) NoMemory). IsTextOf document c.as_slice.result.now) (sym c.in-Ok.is) c.as_slice.ensures.value)
    c.in-Err.ensures.part c.in-Err.ensures.fault refl
