-- Blocks of rows that stand one after another: their places, and their text.
use Rattle.std.proofs.Common.{◌≡◌, ◌∙◌, ℕ, zero, suc, ◌+◌, ◌*◌, ◌<◌, List, [], ◌∷◌, ◌++◌, length, sym, ap, arith}
use Rattle.std.proofs.Common.{Some, slice_get, append-nil, length-append, zero-mul, suc-mul}
use Rattle.std.specs.List.{flat_map}
use Rattle.std.proofs.lemmas.List.Concat.{flat_map-append}
use Rattle.timetable.specs.Lists.{listed, joined}
use Rattle.timetable.proofs.Listing.{length-listed, get_listed, get_joined}

-- what is made of listed blocks is what is made of each, one after another
pub of_listed : {X Y : Type 0} (g : List X → List Y) → g [] ≡ [] → ((xs ys : List X) → g (xs ++ ys) ≡ g xs ++ g ys) → (f : ℕ → List X) (n : ℕ)
    → g (joined f n) ≡ flat_map g (listed f n)
of_listed g none more f zero = none
of_listed g none more f (suc n) =
    more (joined f n) (f n) ∙ ap (λ ys. ys ++ g (f n)) (of_listed g none more f n) ∙ ap (λ ys. flat_map g (listed f n) ++ ys) (sym (append-nil (g (f n))))
    ∙ sym (flat_map-append g (listed f n) (f n ∷ []))

-- the same of blocks that are listed in rows of so many
pub of_rows_listed : {X Y : Type 0} (g : List X → List Y) → g [] ≡ [] → ((xs ys : List X) → g (xs ++ ys) ≡ g xs ++ g ys) → (f : ℕ → ℕ → List X) (width n : ℕ)
    → g (joined (λ s. joined (f s) width) n) ≡ flat_map g (joined (λ s. listed (f s) width) n)
of_rows_listed g none more f width zero = none
of_rows_listed g none more f width (suc n) =
    more (joined (λ s. joined (f s) width) n) (joined (f n) width) ∙ ap (λ ys. ys ++ g (joined (f n) width)) (of_rows_listed g none more f width n)
    ∙ ap (λ ys. flat_map g (joined (λ s. listed (f s) width) n) ++ ys) (of_listed g none more (f n) width)
    ∙ sym (flat_map-append g (joined (λ s. listed (f s) width) n) (listed (f n) width))

pub length-rows_listed : {X : Type 0} (f : ℕ → ℕ → X) (width n : ℕ) → length (joined (λ s. listed (f s) width) n) ≡ n * width
length-rows_listed f width zero = sym (zero-mul width)
length-rows_listed f width (suc n) =
    omega (arith, length-append (joined (λ s. listed (f s) width) n) (listed (f n) width), length-rows_listed f width n, length-listed (f n) width, suc-mul n width)

pub get_rows_listed : {X : Type 0} (f : ℕ → ℕ → X) (width n s m : ℕ) → s < n → m < width
    → slice_get (joined (λ s. listed (f s) width) n) (s * width + m) ≡ Some (f s m)
get_rows_listed f width n s m row place =
    ap (λ (k : ℕ). slice_get (joined (λ s. listed (f s) width) n) (k + m)) (sym (length-rows_listed f width s))
    ∙ get_joined (λ s. listed (f s) width) n s m row (omega (arith, length-listed (f s) width)) ∙ get_listed (f s) width m place
