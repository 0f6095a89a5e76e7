-- Refusals that pass from one step of a definition to the whole.
use Rattle.std.proofs.Common.{◌≡◌, Bool, true, false, Result, Err, ap}
use Rattle.rail_base.specs.Answers.{◌>>=◌, Unless, Fails}

-- a fact that follows from another is as free
pub Unless-then : (b : Bool) (P Q : Type 0) → (P → Q) → Unless b P → Unless b Q
Unless-then true P Q goes u = tt
Unless-then false P Q goes u = goes u

-- a fact holds also where it may be set free
pub Unless-from : {P : Type 0} (b : Bool) → P → Unless b P
Unless-from true fact = tt
Unless-from false fact = fact

-- a definition that fails wherever another does
pub Fails-as : {X Y E : Type 0} (is_memory : E → Bool) (e : E) (read : Result X E) (total : Result Y E) → ((f : E) → read ≡ Err f → total ≡ Err f) →
    Fails is_memory e read → Fails is_memory e total
Fails-as is_memory e read total goes fails = Unless-then (is_memory e) (read ≡ Err e) (total ≡ Err e) (goes e) fails

-- steps fail where their first does
pub Fails-then : {X Y E : Type 0} (is_memory : E → Bool) (e : E) (read : Result X E) (next : X → Result Y E) →
    Fails is_memory e read → Fails is_memory e (read >>= next)
Fails-then is_memory e read next fails = Fails-as is_memory e read (read >>= next) (λ f is. ap (λ (r : Result _ _). r >>= next) is) fails
