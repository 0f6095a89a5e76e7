-- Rows that pass, one after another, give their entries.
use Rattle.std.proofs.Common.{◌≡◌, ◌≢◌, ℕ, ◌<◌, Bool, true, false, List, [], ◌∷◌, ◌++◌, length, get_or, refl, sym, ap}
use Rattle.std.proofs.Common.{subst, ◌∙◌, append_assoc, append-nil, arith, length-append, Option, Some, Result, Ok, Err}
use Rattle.std.proofs.Common.{cond, slice_get}
use Rattle.std.specs.List.{All, AllZip, AllPairs}
use Rattle.std.specs.Str.{bytes_eq}
use Rattle.std.proofs.lemmas.Bool.{false_from_ne_true}
use Rattle.std.proofs.lemmas.List.{get_or_append_left, get_or_at}
use Rattle.std.proofs.lemmas.List.Folds.{Any-from_list_any}
use Rattle.std.proofs.lemmas.Slice.Eq.{bytes_eq-Decides}
use Rattle.rail_base.specs.Answers.{◌>>=◌}
use Rattle.day_tables.specs.declared.building.refusal.InstanceRefusal.{InstanceRefusal}
use Rattle.day_tables.specs.NamedEntries.{AreNamedApart, has_name, found_or}
use Rattle.day_tables.specs.Rowwise.{accept_each}

-- ---- steps that go well

-- one value for another
pub ok_same : {A E : Type 0} (x y : A) → x ≡ y → ◌≡◌ {A = Result A E} (Ok x) (Ok y)
ok_same {A} {E} x y same = ap {B = Result A E} Ok same

-- a step that gives a value, and the rest goes well on it
pub then_ok : {A B E : Type 0} (r : Result A E) (next : A → Result B E) (x : A) (y : B) → r ≡ Ok x → next x ≡ Ok y → (r >>= next) ≡ Ok y
then_ok {A} {E = E} r next x y is rest = ap (λ (r : Result A E). r >>= next) is ∙ rest

-- a test that doesn't refuse
pub unless_ok : {A E : Type 0} (test : Bool) (d : E) (r : Result A E) (y : A) → test ≡ false → r ≡ Ok y → cond test (Err d) r ≡ Ok y
unless_ok test d r y passes is = ap (λ (b : Bool). cond b (Err d) r) passes ∙ is

-- a test that has to pass
pub when_ok : {A E : Type 0} (test : Bool) (d : E) (r : Result A E) (y : A) → test ≡ true → r ≡ Ok y → cond test r (Err d) ≡ Ok y
when_ok test d r y passes is = ap (λ (b : Bool). cond b r (Err d)) passes ∙ is

-- a number that is found
pub number_given : (o : Option ℕ) (d : InstanceRefusal) (n : ℕ) → o ≡ Some n → found_or o d ≡ Ok n
number_given o d n is = ap (λ (o : Option ℕ). found_or o d) is

-- ---- the entries of a list, and those before each

-- an entry stands behind those before it
pub stands_at : {X : Type 0} (all front : List X) (x : X) (rest : List X) → front ++ x ∷ rest ≡ all → slice_get all (length front) ≡ Some x
stands_at {X} all front x rest is = subst (λ (xs : List X). slice_get xs (length front) ≡ Some x) is (behind front)
  where
    behind : (front : List X) → slice_get (front ++ x ∷ rest) (length front) ≡ Some x
    behind [] = refl
    behind (y ∷ front) = behind front

-- what holds of each two entries holds of one and each before it
pub each_before : {X : Type 0} (R : X → X → Type 0) (all front : List X) (x : X) (rest : List X) → AllPairs R all → front ++ x ∷ rest ≡ all → All (λ y. R y x) front
each_before {X} R all front x rest pairs is k d below =
    let whole : AllPairs R (front ++ x ∷ rest) = subst (λ (xs : List X). AllPairs R xs) (sym is) pairs in
    let within : length front < length (front ++ x ∷ rest) = omega (arith, length-append front (x ∷ rest)) in
    subst (λ (y : X). R (get_or front k d) y) (get_or_at front x rest d (length front) refl)
    (subst (λ (y : X). R y (get_or (front ++ x ∷ rest) (length front) d)) (get_or_append_left front (x ∷ rest) d k below) (whole k (length front) d below within))

-- where names are apart, an entry's name is that of none before it
pub name_is_new : {X : Type 0} (name_of : X → List ℕ) (all front : List X) (x : X) (rest : List X) (name : List ℕ) → AreNamedApart name_of all → front ++ x ∷ rest ≡ all → name_of x ≡ name
    → has_name name_of front name ≡ false
name_is_new name_of all front x rest name apart is named = false_from_ne_true (has_name name_of front name) (λ some.
    let (k, y, below, at, same) = Any-from_list_any (λ entry. bytes_eq (name_of entry) name) front some in
    each_before (λ a b. name_of a ≢ name_of b) all front x rest apart is k y below (ap name_of at ∙ (bytes_eq-Decides (name_of y) name).0 same ∙ sym named))

-- ---- all rows

-- where each row gives its entry behind the entries before it, the rows give them all
pub all_accepted : {A B E : Type 0} (accept : List B → A → Result B E) (R : A → B → Type 0) (all : List B)
    → ((front : List B) (row : A) (b : B) (rest : List B) → front ++ b ∷ rest ≡ all → R row b → accept front row ≡ Ok b)
    → (front : List B) (rows : List A) (bs : List B) → front ++ bs ≡ all → AllZip R rows bs → accept_each accept front rows ≡ Ok all
all_accepted accept R all each front [] [] is zip = ok_same front all (sym (append-nil front) ∙ is)
all_accepted accept R all each front [] (b ∷ bs) is zip = absurd zip
all_accepted accept R all each front (row ∷ rows) [] is zip = absurd zip
all_accepted accept R all each front (row ∷ rows) (b ∷ bs) is zip =
    then_ok (accept front row) (λ b. accept_each accept (front ++ b ∷ []) rows) b all (each front row b bs is zip.0)
    (all_accepted accept R all each (front ++ b ∷ []) rows bs (append_assoc front (b ∷ []) bs ∙ is) zip.1)
