-- Steps that go well: what a chain of them says where it does, and tests in front of an answer; both ways.
use Rattle.std.proofs.Common.{◌≡◌, Bool, true, false, cond, Result, Ok, Err, refl, sym, subst}
use Rattle.rail_base.specs.Answers.{◌>>=◌}
use Rattle.rail_csv.specs.declared.refusal.TableRefusal.{TableRefusal}

abbrev pub the_ok : {A : Type 0} → A → Result A TableRefusal
the_ok x = Ok x

pub same : {A : Type 0} (x y : A) → the_ok x ≡ the_ok y → x ≡ y
same x y e = cc

-- a chain that went well: its first step did, and so did what follows
pub step : {A B : Type 0} {read : Result A TableRefusal} {next : A → Result B TableRefusal} {b : B}
    → (read >>= next) ≡ Ok b → (P : A → Type 0) → ((a : A) → read ≡ Ok a → P a)
    → {Q : Type 0} → ((a : A) → P a → next a ≡ Ok b → Q) → Q
step {read = Ok a} e P meets goes = goes a (meets a refl) e
step {read = Err d} e P meets goes = absurd cc

-- and back
pub step_on : {A B : Type 0} {read : Result A TableRefusal} {a : A} {b : B} (next : A → Result B TableRefusal)
    → read ≡ Ok a → next a ≡ Ok b → (read >>= next) ≡ Ok b
step_on {A = A} {b = b} next e goes =
    subst (λ (r : Result A TableRefusal). (r >>= next) ≡ Ok b) (sym e) goes

-- a test that is to fail
pub went_on : {A : Type 0} (b : Bool) (read : Result A TableRefusal) (y : A) (d : TableRefusal)
    → cond b (Err d) read ≡ Ok y → (b ≡ false) × (read ≡ Ok y)
went_on true read y d e = absurd cc
went_on false read y d e = (refl, e)

-- a test that is to pass
pub passed : {A : Type 0} (b : Bool) (read : Result A TableRefusal) (y : A) (d : TableRefusal)
    → cond b read (Err d) ≡ Ok y → (b ≡ true) × (read ≡ Ok y)
passed true read y d e = (refl, e)
passed false read y d e = absurd cc

pub pass : {A : Type 0} (b : Bool) (read : Result A TableRefusal) (y : A) (d : TableRefusal)
    → b ≡ true → read ≡ Ok y → cond b read (Err d) ≡ Ok y
pass true read y d is e = e
pass false read y d is e = absurd cc

-- two of them
pub passed_both : {A : Type 0} (a b : Bool) (read : Result A TableRefusal) (y : A) (d f : TableRefusal)
    → cond a (cond b read (Err d)) (Err f) ≡ Ok y → (a ≡ true) × (b ≡ true) × (read ≡ Ok y)
passed_both true true read y d f e = (refl, refl, e)
passed_both true false read y d f e = absurd cc
passed_both false b read y d f e = absurd cc

pub pass_both : {A : Type 0} (a b : Bool) (read : Result A TableRefusal) (y : A) (d f : TableRefusal)
    → a ≡ true → b ≡ true → read ≡ Ok y → cond a (cond b read (Err d)) (Err f) ≡ Ok y
pass_both a b read y d f first second e = pass a (cond b read (Err d)) y f first (pass b read y d second e)
