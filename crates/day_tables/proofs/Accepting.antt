-- Rows that are accepted one after another: what holds of each that is accepted holds of all.
use Rattle.std.proofs.Common.{◌≡◌, inl, inr, ℕ, zero, suc, ◌+◌, ◌<◌, Bool, true, false, List, [], ◌∷◌, ◌++◌, length}
use Rattle.std.proofs.Common.{get_or, refl, sym, ap, subst, ◌∙◌, append_assoc, append-nil, map, arith, length-append}
use Rattle.std.proofs.Common.{Option, Some, None, Result, Ok, Err, cond, slice_get}
use Rattle.std.specs.List.{All, AllZip, AllPairs, Any, list_any}
use Rattle.std.proofs.lemmas.Bool.{or_cases}
use Rattle.std.proofs.lemmas.Option.{same_Some}
use Rattle.std.proofs.lemmas.List.Elements.{All-push, All-head, All-tail}
use Rattle.std.proofs.lemmas.List.Quantifiers.{all_pairs_push}
use Rattle.day_tables.specs.declared.building.refusal.InstanceRefusal.{InstanceRefusal}
use Rattle.day_tables.specs.NamedEntries.{found_or}
use Rattle.rail_base.specs.Answers.{◌>>=◌}
use Rattle.day_tables.specs.Rowwise.{accept_each}

-- a step that went well is one that gave a value, and the rest went well on it
pub bind_ok : {A B E : Type 0} (r : Result A E) (next : A → Result B E) (y : B) → (r >>= next) ≡ Ok y → (x : A) × (r ≡ Ok x) × (next x ≡ Ok y)
bind_ok (Ok x) next y e = (x, refl, e)
bind_ok (Err d) next y e = absurd cc

-- a test that passed
pub guard_ok : {A E : Type 0} (test : Bool) (d : E) (r : Result A E) (y : A) → cond test (Err d) r ≡ Ok y → (test ≡ false) × (r ≡ Ok y)
guard_ok true d r y e = absurd cc
guard_ok false d r y e = (refl, e)

-- a choice that went well
pub choice_ok : {A E : Type 0} (test : Bool) (d : E) (r : Result A E) (y : A) → cond test r (Err d) ≡ Ok y → (test ≡ true) × (r ≡ Ok y)
choice_ok true d r y e = (refl, e)
choice_ok false d r y e = absurd cc

pub same_ok : {A E : Type 0} (x y : A) → ◌≡◌ {A = Result A E} (Ok x) (Ok y) → x ≡ y
same_ok x y e = cc

pub found_ok : (o : Option ℕ) (d : InstanceRefusal) (n : ℕ) → found_or o d ≡ Ok n → o ≡ Some n
found_ok (Some m) d n e = ap Some (same_ok m n e)
found_ok None d n e = absurd cc

-- every entry that was accepted has what each has
pub accepted_all : {A B E : Type 0} (accept : List B → A → Result B E) (Q : A → Type 0) (P : B → Type 0)
    → ((before : List B) (row : A) (b : B) → Q row → accept before row ≡ Ok b → P b)
    → (before : List B) (rows : List A) (bs : List B) → All P before → All Q rows → accept_each accept before rows ≡ Ok bs → All P bs
accepted_all accept Q P step before [] bs so_far rest e = subst (λ (ys : List _). All P ys) (same_ok before bs e) so_far
accepted_all accept Q P step before (row ∷ rows) bs so_far rest e =
    let (b, is_b, more) = bind_ok (accept before row) (λ b. accept_each accept (before ++ b ∷ []) rows) bs e in
    accepted_all accept Q P step (before ++ b ∷ []) rows bs
    (All-push P before b so_far (step before row b (All-head Q row rows rest) is_b))
    (All-tail Q row rows rest) more

-- as many entries as rows
pub accepted_length : {A B E : Type 0} (accept : List B → A → Result B E) (before : List B) (rows : List A) (bs : List B)
    → accept_each accept before rows ≡ Ok bs → length bs ≡ length before + length rows
accepted_length accept before [] bs e = let h : length before ≡ length bs = ap length (same_ok before bs e) in omega arith
accepted_length accept before (row ∷ rows) bs e =
    let (b, is_b, more) = bind_ok (accept before row) (λ b. accept_each accept (before ++ b ∷ []) rows) bs e in
    let h : length bs ≡ length (before ++ b ∷ []) + length rows = accepted_length accept (before ++ b ∷ []) rows bs more in
    omega (arith, length-append before (b ∷ []))

-- the entries are what the rows give, in order
pub accepted_map : {A B E : Type 0} (accept : List B → A → Result B E) (f : A → B) → ((before : List B) (row : A) (b : B) → accept before row ≡ Ok b → f row ≡ b)
    → (before : List B) (rows : List A) (bs : List B) → accept_each accept before rows ≡ Ok bs → bs ≡ before ++ map f rows
accepted_map accept f step before [] bs e = sym (same_ok before bs e) ∙ sym (append-nil before)
accepted_map {A} {B} accept f step before (row ∷ rows) bs e =
    let (b, is_b, more) = bind_ok (accept before row) (λ b. accept_each accept (before ++ b ∷ []) rows) bs e in
    accepted_map accept f step (before ++ b ∷ []) rows bs more ∙ append_assoc before (b ∷ []) (map f rows) ∙ ap (λ (x : B). before ++ x ∷ map f rows) (sym (step before row b is_b))

-- the row at a place was accepted after as many as stand before it
pub accepted_at : {A B E : Type 0} (accept : List B → A → Result B E) (before : List B) (rows : List A) (bs : List B) → accept_each accept before rows ≡ Ok bs → (k : ℕ) (row : A) → slice_get rows k ≡ Some row
    → (front : List B) × (b : B) × (length front ≡ length before + k) × (accept front row ≡ Ok b)
accepted_at accept before [] bs e k row at = absurd cc
accepted_at {A} accept before (first ∷ rows) bs e zero row at =
    let (b, is_b, more) = bind_ok (accept before first) (λ b. accept_each accept (before ++ b ∷ []) rows) bs e in
    (before, b, omega arith, ap (λ (x : A). accept before x) (sym (same_Some first row at)) ∙ is_b)
accepted_at accept before (first ∷ rows) bs e (suc k) row at =
    let (b, is_b, more) = bind_ok (accept before first) (λ b. accept_each accept (before ++ b ∷ []) rows) bs e in
    let (front, c, count, is) = accepted_at accept (before ++ b ∷ []) rows bs more k row at in
    (front, c, omega (arith, count, length-append before (b ∷ [])), is)

pub zip_push : {A B : Type 0} (R : A → B → Type 0) (xs : List A) (ys : List B) (x : A) (y : B) → AllZip R xs ys → R x y → AllZip R (xs ++ x ∷ []) (ys ++ y ∷ [])
zip_push R [] [] x y all here = (here, tt)
zip_push R [] (b ∷ ys) x y all here = absurd all
zip_push R (a ∷ xs) [] x y all here = absurd all
zip_push R (a ∷ xs) (b ∷ ys) x y all here = (all.0, zip_push R xs ys x y all.1 here)

-- each entry and its row
pub accepted_zip : {A B E : Type 0} (accept : List B → A → Result B E) (R : A → B → Type 0) → ((before : List B) (row : A) (b : B) → accept before row ≡ Ok b → R row b)
    → (done : List A) (before : List B) (rows : List A) (bs : List B) → AllZip R done before → accept_each accept before rows ≡ Ok bs → AllZip R (done ++ rows) bs
accepted_zip {A} accept R step done before [] bs so_far e = subst (λ (xs : List A). AllZip R xs bs) (sym (append-nil done)) (subst (λ (ys : List _). AllZip R done ys) (same_ok before bs e) so_far)
accepted_zip {A} accept R step done before (row ∷ rows) bs so_far e =
    let (b, is_b, more) = bind_ok (accept before row) (λ b. accept_each accept (before ++ b ∷ []) rows) bs e in
    subst (λ (xs : List A). AllZip R xs bs) (append_assoc done (row ∷ []) rows)
    (accepted_zip accept R step (done ++ row ∷ []) (before ++ b ∷ []) rows bs (zip_push R done before row b so_far (step before row b is_b)) more)

-- each two entries
pub accepted_pairs : {A B E : Type 0} (accept : List B → A → Result B E) (R : B → B → Type 0)
    → ((before : List B) (row : A) (b : B) → accept before row ≡ Ok b → (k : ℕ) (d : B) → k < length before → R (get_or before k d) b)
    → (before : List B) (rows : List A) (bs : List B) → AllPairs R before → accept_each accept before rows ≡ Ok bs → AllPairs R bs
accepted_pairs accept R step before [] bs so_far e = subst (λ (ys : List _). AllPairs R ys) (same_ok before bs e) so_far
accepted_pairs accept R step before (row ∷ rows) bs so_far e =
    let (b, is_b, more) = bind_ok (accept before row) (λ b. accept_each accept (before ++ b ∷ []) rows) bs e in
    accepted_pairs accept R step (before ++ b ∷ []) rows bs (all_pairs_push R before b so_far (step before row b is_b)) more

-- an entry that passes a test comes from a row before
pub any_front : {A B : Type 0} (R : A → B → Type 0) (p : B → Bool) (P : A → Type 0) → ((a : A) (b : B) → R a b → p b ≡ true → P a)
    → (front : List A) (entries : List B) → AllZip R front entries → list_any p entries ≡ true → Any P front
any_front R p P step [] [] all some = absurd cc
any_front R p P step [] (b ∷ bs) all some = absurd all
any_front R p P step (a ∷ rest) [] all some = absurd all
any_front R p P step (a ∷ rest) (b ∷ bs) all some = elim (or_cases (p b) (list_any p bs) some) [
  | inl here ↦ (0, a, omega arith, refl, step a b all.0 here)
  | inr later ↦
      let (k, x, below, is, has) = any_front R p P step rest bs all.1 later in
      (suc k, x, omega arith, is, has)
]
