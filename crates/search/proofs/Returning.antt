-- What holds of a result that is returned as it is.
use Rattle.std.proofs.Common.{Result, Ok, Err, OnOk}

module _ {T E : Type 0} where
  -- what is known anyway
  pub on_ok_known : {A : Type 0} (r : Result T E) → A → OnOk r A
  on_ok_known (Ok x) known = known
  on_ok_known (Err e) known = tt

  -- what follows from two clauses
  pub on_ok_both : {A B C : Type 0} (r : Result T E) → OnOk r A → OnOk r B → (A → B → C) → OnOk r C
  on_ok_both (Ok x) one other both = both one other
  on_ok_both (Err e) one other both = tt
