-- The entries that are left once some are gone: where each stands then, and where it stood before.
use Rattle.std.proofs.Common.{◌≡◌, ◌∙◌, inl, inr, ℕ, zero, suc, ◌+◌, ◌-◌, ◌<◌, ◌≤◌, Bool, true, false, List, [], ◌∷◌, map}
use Rattle.std.proofs.Common.{refl, ap, subst, arith, Some, slice_get}
use Rattle.std.specs.Prelude.{not, if◌then◌else◌}
use Rattle.std.specs.List.{All, AllZip, AllPairs}
use Rattle.std.proofs.lemmas.Bool.{cases_order}
use Rattle.std.proofs.lemmas.List.Elements.{All-nil, All-cons, All-head, All-tail}
use Rattle.std.proofs.lemmas.List.Kept.{AllPairs-cons}
use Rattle.day_tables.specs.DerivedDays.{left_from, left, new_number}
use Rattle.day_tables.specs.Lists.{has}

-- what an entry's place was before
pub record WasAt {X : Type 0} (gone : List ℕ) (xs : List X) (first j : ℕ) (x : X) : Type 0 where
  pub place : ℕ
  pub at : slice_get xs place ≡ Some x
  pub stays : has (first + place) gone ≡ false
  pub number : new_number gone first + j ≡ new_number gone (first + place)

module _ (gone : List ℕ) where
  -- the number of the next
  next : (t : ℕ) (b : Bool) → has t gone ≡ b → new_number gone (t + 1) ≡ new_number gone t + (if not b then 1 else 0)
  next t b is =
      let on : t + 1 ≡ suc t = omega arith in
      ap (new_number gone) on ∙ ap (λ (c : Bool). new_number gone t + (if not c then 1 else 0)) is

  never_falls : (t k : ℕ) → new_number gone t ≤ new_number gone (t + k)
  never_falls t zero = let same : new_number gone t ≡ new_number gone (t + 0) = ap (new_number gone) (omega arith) in omega arith
  never_falls t (suc k) =
      let before : new_number gone t ≤ new_number gone (t + k) = never_falls t k in
      let same : new_number gone (t + k + 1) ≡ new_number gone (t + suc k) = ap (new_number gone) (omega arith) in
      let here = next (t + k) (has (t + k) gone) refl in
      omega arith

  -- one that stays has a lower number than those behind it
  rises : (a b : ℕ) → has a gone ≡ false → a < b → new_number gone a < new_number gone b
  rises a b stays before =
      let here : new_number gone (a + 1) ≡ new_number gone a + 1 = next a false stays in
      let later : new_number gone (a + 1) ≤ new_number gone (a + 1 + (b - (a + 1))) = never_falls (a + 1) (b - (a + 1)) in
      let same : new_number gone (a + 1 + (b - (a + 1))) ≡ new_number gone b = ap (new_number gone) (omega arith) in
      omega arith

  -- two that stay have two numbers
  pub one_number : (a b : ℕ) → has a gone ≡ false → has b gone ≡ false → new_number gone a ≡ new_number gone b → a ≡ b
  one_number a b stays_a stays_b same = elim (cases_order a b) [
    | inl is ↦ is
    | inr differ ↦ elim differ [
      | inl before ↦ let less = rises a b stays_a before in absurd (omega arith)
      | inr after ↦ let less = rises b a stays_b after in absurd (omega arith)
    ]
  ]

  module _ {X : Type 0} where
    after_step : (y : X) (rest : List X) (n k j : ℕ) (x : X) (b : Bool) → has n gone ≡ b
        → ((j : ℕ) → new_number gone (n + 1) + j ≡ new_number gone (n + 1 + k) → slice_get (left_from gone (n + 1) rest) j ≡ Some x)
        → new_number gone n + j ≡ new_number gone (n + suc k) → slice_get (if b then left_from gone (n + 1) rest else y ∷ left_from gone (n + 1) rest) j ≡ Some x
    after_step y rest n k j x true is later number =
        let on : new_number gone (n + suc k) ≡ new_number gone (n + 1 + k) = ap (new_number gone) (omega arith) in
        let here = next n true is in
        later j (omega arith)
    after_step y rest n k zero x false is later number =
        let on : new_number gone (n + suc k) ≡ new_number gone (n + 1 + k) = ap (new_number gone) (omega arith) in
        let here = next n false is in
        let more = never_falls (n + 1) k in
        absurd (omega arith)
    after_step y rest n k (suc j) x false is later number =
        let on : new_number gone (n + suc k) ≡ new_number gone (n + 1 + k) = ap (new_number gone) (omega arith) in
        let here = next n false is in
        later j (omega arith)

    -- where an entry that stays stands then
    left_at_from : (xs : List X) (n k j : ℕ) (x : X) → slice_get xs k ≡ Some x → has (n + k) gone ≡ false → new_number gone n + j ≡ new_number gone (n + k)
        → slice_get (left_from gone n xs) j ≡ Some x
    left_at_from [] n k j x at stays number = absurd cc
    left_at_from (y ∷ rest) n zero j x at stays number =
        let on : n + 0 ≡ n = omega arith in
        let here : has n gone ≡ false = subst (λ (t : ℕ). has t gone ≡ false) on stays in
        let same : new_number gone (n + 0) ≡ new_number gone n = ap (new_number gone) on in
        let first : 0 ≡ j = omega arith in
        ap (λ (b : Bool). slice_get (if b then left_from gone (n + 1) rest else y ∷ left_from gone (n + 1) rest) j) here
        ∙ subst (λ (i : ℕ). slice_get (y ∷ left_from gone (n + 1) rest) i ≡ Some x) first at
    left_at_from (y ∷ rest) n (suc k) j x at stays number =
        let on : n + suc k ≡ n + 1 + k = omega arith in
        after_step y rest n k j x (has n gone) refl
        (λ i is. left_at_from rest (n + 1) k i x at (subst (λ (t : ℕ). has t gone ≡ false) on stays) is) number

    pub left_at : (xs : List X) (t : ℕ) (x : X) → slice_get xs t ≡ Some x → has t gone ≡ false → slice_get (left gone xs) (new_number gone t) ≡ Some x
    left_at xs t x at stays =
        let on : t ≡ 0 + t = omega arith in
        let same : new_number gone t ≡ new_number gone (0 + t) = ap (new_number gone) on in
        left_at_from xs 0 t (new_number gone t) x at (subst (λ (k : ℕ). has k gone ≡ false) on stays) (omega arith)

    was_later : (y : X) (rest : List X) (n i j : ℕ) (x : X) → new_number gone n + j ≡ new_number gone (n + 1) + i → WasAt gone rest (n + 1) i x → WasAt gone (y ∷ rest) n j x
    was_later y rest n i j x step was =
        let on : n + 1 + was.place ≡ n + suc was.place = omega arith in
        let same : new_number gone (n + 1 + was.place) ≡ new_number gone (n + suc was.place) = ap (new_number gone) on in
        let number = was.number in
        record {
          place = suc was.place;
          at = was.at;
          stays = subst (λ (t : ℕ). has t gone ≡ false) on was.stays;
          number = omega arith;
        }

    before_step : (y : X) (rest : List X) (n j : ℕ) (x : X) (b : Bool) → has n gone ≡ b → ((i : ℕ) → slice_get (left_from gone (n + 1) rest) i ≡ Some x → WasAt gone rest (n + 1) i x)
        → slice_get (if b then left_from gone (n + 1) rest else y ∷ left_from gone (n + 1) rest) j ≡ Some x → WasAt gone (y ∷ rest) n j x
    before_step y rest n j x true is later at = let here = next n true is in was_later y rest n j j x (omega arith) (later j at)
    before_step y rest n zero x false is later at =
        let on : n ≡ n + 0 = omega arith in
        let same : new_number gone n ≡ new_number gone (n + 0) = ap (new_number gone) on in
        record { place = 0; at = at; stays = subst (λ (t : ℕ). has t gone ≡ false) on is; number = omega arith }
    before_step y rest n (suc j) x false is later at = let here = next n false is in was_later y rest n j (suc j) x (omega arith) (later j at)

    -- where an entry that is left stood before
    was_at_from : (xs : List X) (n j : ℕ) (x : X) → slice_get (left_from gone n xs) j ≡ Some x → WasAt gone xs n j x
    was_at_from [] n j x at = absurd cc
    was_at_from (y ∷ rest) n j x at = before_step y rest n j x (has n gone) refl (λ i is. was_at_from rest (n + 1) i x is) at

    pub was_at : (xs : List X) (t : ℕ) (x : X) → slice_get (left gone xs) t ≡ Some x → (k : ℕ) × (slice_get xs k ≡ Some x) × (has k gone ≡ false) × (new_number gone k ≡ t)
    was_at xs t x at =
        let was : WasAt gone xs 0 t x = was_at_from xs 0 t x at in
        let on : 0 + was.place ≡ was.place = omega arith in
        let same : new_number gone (0 + was.place) ≡ new_number gone was.place = ap (new_number gone) on in
        let number = was.number in
        (was.place, was.at, subst (λ (k : ℕ). has k gone ≡ false) on was.stays, omega arith)

    all_step : (P : X → Type 0) (b : Bool) (x : X) (rest : List X) → P x → All P rest → All P (if b then rest else x ∷ rest)
    all_step P true x rest here later = later
    all_step P false x rest here later = All-cons P x rest here later

    pub left_all : (P : X → Type 0) (xs : List X) (n : ℕ) → All P xs → All P (left_from gone n xs)
    left_all P [] n all = All-nil P
    left_all P (x ∷ xs) n all = all_step P (has n gone) x (left_from gone (n + 1) xs) (All-head P x xs all) (left_all P xs (n + 1) (All-tail P x xs all))

    pairs_step : (R : X → X → Type 0) (b : Bool) (x : X) (rest : List X) → All (R x) rest → AllPairs R rest → AllPairs R (if b then rest else x ∷ rest)
    pairs_step R true x rest here later = later
    pairs_step R false x rest here later = AllPairs-cons R x rest here later

    -- what is so of each two entries is so of each two that are left
    pub left_pairs : (R : X → X → Type 0) (xs : List X) (n : ℕ) → AllPairs R xs → AllPairs R (left_from gone n xs)
    left_pairs R [] n pairs = pairs
    left_pairs R (x ∷ xs) n pairs =
        pairs_step R (has n gone) x (left_from gone (n + 1) xs)
        (left_all (R x) xs (n + 1) (λ k d within. pairs 0 (suc k) d (omega arith) (omega arith)))
        (left_pairs R xs (n + 1) (λ i j d before within. pairs (suc i) (suc j) d (omega arith) (omega arith)))

  module _ {A B : Type 0} where
    zip_step : (R : A → B → Type 0) (b : Bool) (x : A) (xs : List A) (y : B) (ys : List B) → R x y → AllZip R xs ys → AllZip R (if b then xs else x ∷ xs) (if b then ys else y ∷ ys)
    zip_step R true x xs y ys here later = later
    zip_step R false x xs y ys here later = (here, later)

    -- the rows that are left are those of the entries that are left
    pub left_zip : (R : A → B → Type 0) (xs : List A) (ys : List B) (n : ℕ) → AllZip R xs ys → AllZip R (left_from gone n xs) (left_from gone n ys)
    left_zip R [] [] n all = tt
    left_zip R [] (y ∷ ys) n all = absurd all
    left_zip R (x ∷ xs) [] n all = absurd all
    left_zip R (x ∷ xs) (y ∷ ys) n all = zip_step R (has n gone) x (left_from gone (n + 1) xs) y (left_from gone (n + 1) ys) all.0 (left_zip R xs ys (n + 1) all.1)

    map_step : (f : A → B) (b : Bool) (x : A) (xs : List A) (ys : List B) → map f xs ≡ ys → map f (if b then xs else x ∷ xs) ≡ (if b then ys else f x ∷ ys)
    map_step f true x xs ys same = same
    map_step f false x xs ys same = ap (λ (l : List B). f x ∷ l) same

    pub left_map : (f : A → B) (xs : List A) (n : ℕ) → map f (left_from gone n xs) ≡ left_from gone n (map f xs)
    left_map f [] n = refl
    left_map f (x ∷ xs) n = map_step f (has n gone) x (left_from gone (n + 1) xs) (left_from gone (n + 1) (map f xs)) (left_map f xs (n + 1))
