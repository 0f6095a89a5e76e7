-- Sets of moments, by their stations: an empty one, and one moment more.
use Rattle.std.proofs.Common.{◌≡◌, ◌≢◌, ℕ, zero, suc, ◌+◌, ◌<◌, Bool, false, List, [], ◌∷◌, ◌++◌, length, replicate, refl, sym, ap, ◌∙◌, arith, inl, inr, unwrap_or}
use Rattle.std.specs.Prelude.{slice_get}
use Rattle.std.proofs.lemmas.Bool.{cases_eq}
use Rattle.urgent_units.specs.Cuts.{is_in, moments_in}

-- whether a place of a list of flags is set; false where there is no such place
abbrev pub flag : List Bool → ℕ → Bool
flag ms k = unwrap_or (slice_get ms k) false

pub is_in-flag : (cut : List (List Bool)) (s k : ℕ) → is_in cut s k ≡ flag (moments_in cut s) k
unfolding is_in
is_in-flag cut s k = refl

-- ---- none

pub no_flags : (n k : ℕ) → flag (replicate n false) k ≡ false
no_flags zero k = refl
no_flags (suc n) zero = refl
no_flags (suc n) (suc k) = no_flags n k

push_same : (cut : List (List Bool)) (ms : List Bool) → moments_in (cut ++ ms ∷ []) (length cut) ≡ ms
push_same [] ms = refl
push_same (c ∷ cut) ms = push_same cut ms

push_other : (cut : List (List Bool)) (ms : List Bool) (s : ℕ) → s ≢ length cut → moments_in (cut ++ ms ∷ []) s ≡ moments_in cut s
push_other [] ms zero differs = absurd (differs refl)
push_other [] ms (suc s) differs = refl
push_other (c ∷ cut) ms zero differs = refl
push_other (c ∷ cut) ms (suc s) differs = push_other cut ms s (λ e. differs (ap suc e))

pub none_yet : (s k : ℕ) → is_in [] s k ≡ false
unfolding is_in
none_yet s k = refl

-- one station more, none of whose moments is in the set
pub push_empty : (cut : List (List Bool)) (ms : List Bool) → ((s k : ℕ) → is_in cut s k ≡ false) → ((k : ℕ) → flag ms k ≡ false) → (s k : ℕ) → is_in (cut ++ ms ∷ []) s k ≡ false
unfolding is_in
push_empty cut ms none empty s k = elim (cases_eq s (length cut)) [
  | inl same ↦ ap (λ (t : ℕ). flag (moments_in (cut ++ ms ∷ []) t) k) same ∙ ap (λ (l : List Bool). flag l k) (push_same cut ms) ∙ empty k
  | inr differs ↦ ap (λ (l : List Bool). flag l k) (push_other cut ms s differs) ∙ none s k
]

pub push_long : (cut : List (List Bool)) (ms : List Bool) (f : ℕ → ℕ) → ((s : ℕ) → s < length cut → length (moments_in cut s) ≡ f s) → length ms ≡ f (length cut)
    → (s : ℕ) → s < suc (length cut) → length (moments_in (cut ++ ms ∷ []) s) ≡ f s
push_long cut ms f each here s below = elim (cases_eq s (length cut)) [
  | inl same ↦ ap (λ (t : ℕ). length (moments_in (cut ++ ms ∷ []) t)) same ∙ ap (λ (l : List Bool). length l) (push_same cut ms) ∙ here ∙ ap f (sym same)
  | inr differs ↦ ap (λ (l : List Bool). length l) (push_other cut ms s differs) ∙ each s (less s (length cut) below differs)
]
  where
    less : (s n : ℕ) → s < suc n → s ≢ n → s < n
    less s n below differs = omega (arith, below, differs)

length_replicate : (n : ℕ) → length (replicate n false) ≡ n
length_replicate zero = refl
length_replicate (suc n) = ap suc (length_replicate n)

length_push : (cut : List (List Bool)) (ms : List Bool) → length (cut ++ ms ∷ []) ≡ suc (length cut)
length_push [] ms = refl
length_push (c ∷ cut) ms = ap suc (length_push cut ms)

-- all of it in one: a station more whose moments are so many, none of them in the set
pub with_station : (f : ℕ → ℕ) (n m : ℕ) (old new : List (List Bool)) (ms : List Bool) → length old ≡ n → ((s : ℕ) → s < n → length (moments_in old s) ≡ f s) → ((s k : ℕ) → is_in old s k ≡ false)
    → ms ≡ replicate m false → m ≡ f n → new ≡ old ++ ms ∷ []
    → (length new ≡ n + 1) × ((s : ℕ) → s < n + 1 → length (moments_in new s) ≡ f s) × ((s k : ℕ) → is_in new s k ≡ false)
with_station f n m old new ms long each none flags_are moments_are new_are =
    let more : length new ≡ suc (length old) = ap (λ (cut : List (List Bool)). length cut) new_are ∙ length_push old ms in
    let here : length ms ≡ f (length old) = ap (λ (l : List Bool). length l) flags_are ∙ length_replicate m ∙ moments_are ∙ ap f (sym long) in (
      omega (arith, more, long),
      (λ s below.
          ap (λ (cut : List (List Bool)). length (moments_in cut s)) new_are
          ∙ push_long old ms f (λ t under. each t (omega (arith, under, long))) here s (omega (arith, below, long))),
      (λ s k.
          ap (λ (cut : List (List Bool)). is_in cut s k) new_are
          ∙ push_empty old ms none (λ j. ap (λ (l : List Bool). flag l j) flags_are ∙ no_flags m j) s k),
    )
