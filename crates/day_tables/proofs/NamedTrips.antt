-- The link that names a trip on one side, found by its place.
use Rattle.std.proofs.Common.{◌≡◌, ℕ, zero, suc, ◌+◌, ◌<◌, ◌≤◌, List, [], ◌∷◌, length, get_or, Bool, true, false, ltb}
use Rattle.std.proofs.Common.{Option, Some, None, refl, sym, ap, ◌∙◌, subst, arith, ◌≢◌, ⊎_elim, ◌⊎◌, inl, inr}
use Rattle.std.specs.Prelude.{slice_get, position}
use Rattle.std.specs.List.{position_or_len}
use Rattle.std.proofs.lemmas.Bool.{cases_lt, lt-ltb, ltb-true, leb-true, le-leb, lt-leb, cond-true, both_ways}
use Rattle.std.proofs.lemmas.Option.{slice_get_cases, slice_get_within, slice_get-get_or, get_or_from_slice_get}
use Rattle.std.proofs.lemmas.Option.{cond_some}
use Rattle.std.proofs.lemmas.List.Sums.{position_or_len_is, fails_before_first, passes_at_first}
use Rattle.day_tables.specs.Lists.{count_of, has}
use Rattle.day_tables.specs.Accepted.{times_named}
use Rattle.rules.specs.declared.records.Link.{Link}
use Rattle.rules.specs.declared.records.LinkKind.{LinkKind}

-- what the first place that passes has
pub position_some : {X : Type 0} (p : X → Bool) (xs : List X) (i : ℕ) → position p xs ≡ Some i → (x : X) × (slice_get xs i ≡ Some x) × (p x ≡ true)
position_some p xs i e =
    let both = cond_some (ltb (position_or_len p xs) (length xs)) (position_or_len p xs) i e in
    let within = ltb-true (position_or_len p xs) (length xs) both.0 in
    let same = both.1 in
    ⊎_elim
    (λ h.
    let x = h.0 in
    let here = passes_at_first p xs h.0 within in
    let here' = subst (λ k. p (get_or xs k h.0) ≡ true) same here in
    (h.0, h.2, ap p (sym h.3) ∙ here'))
    (λ h. let past = h.0 in absurd (omega arith))
    (slice_get_cases xs i).1

-- where none is found, none passes
pub position_none : {X : Type 0} (p : X → Bool) (xs : List X) (i : ℕ) (x : X) → position p xs ≡ None → slice_get xs i ≡ Some x → p x ≡ false
position_none p xs i x e at =
    let lt = slice_get_within xs i x at in
    let past : length xs ≤ position_or_len p xs =
    ⊎_elim (λ (within : position_or_len p xs < length xs).
    let some : Some (position_or_len p xs) ≡ None = sym (cond-true (ltb (position_or_len p xs) (length xs)) (Some (position_or_len p xs)) None (lt-ltb _ _ within)) ∙ e in
    absurd (cc))
    (λ (ge : length xs ≤ position_or_len p xs). ge) (cases_lt (position_or_len p xs) (length xs)) in
    ap p (sym (get_or_from_slice_get xs i x x at)) ∙ fails_before_first p xs i x (omega arith)

-- the one place that passes is found
position_one : {X : Type 0} (p : X → Bool) (xs : List X) (i : ℕ) (x : X) → slice_get xs i ≡ Some x → p x ≡ true → ((k : ℕ) (y : X) → k ≢ i → slice_get xs k ≡ Some y → p y ≡ false) → position p xs ≡ Some i
position_one p xs i x at is others =
    let lt = slice_get_within xs i x at in
    let first = position_or_len_is p xs i x (omega arith)
    (λ k below. others k (get_or xs k x) (λ e. absurd (omega arith)) (slice_get-get_or xs k x (omega arith)))
    (λ within. ap p (get_or_from_slice_get xs i x x at) ∙ is) in
    cond-true (ltb (position_or_len p xs) (length xs)) (Some (position_or_len p xs)) None (lt-ltb _ _ (omega arith))
    ∙ ap Some first

module _ (side : LinkKind → List ℕ) where
  pub named_here : (links : List Link) (t l : ℕ) (link : Link) → slice_get links l ≡ Some link → count_of t (side link.kind) ≤ times_named side links t
  named_here [] t l link e = absurd (cc)
  named_here (x ∷ links) t zero link e =
      let same : x ≡ link = cc in
      let n = ap (λ y. count_of t (side y.kind)) same in
      omega arith
  named_here (x ∷ links) t (suc l) link e = let rest = named_here links t l link e in omega arith

  pub named_twice : (links : List Link) (t l k : ℕ) (link other : Link) → k ≢ l → slice_get links l ≡ Some link → slice_get links k ≡ Some other → count_of t (side link.kind) + count_of t (side other.kind) ≤ times_named side links t
  named_twice [] t l k link other ne e f = absurd (cc)
  named_twice (x ∷ links) t zero zero link other ne e f = absurd (ne refl)
  named_twice (x ∷ links) t zero (suc k) link other ne e f =
      let same : x ≡ link = cc in
      let n = ap (λ y. count_of t (side y.kind)) same in
      let rest = named_here links t k other f in
      omega arith
  named_twice (x ∷ links) t (suc l) zero link other ne e f =
      let same : x ≡ other = cc in
      let n = ap (λ y. count_of t (side y.kind)) same in
      let rest = named_here links t l link e in
      omega arith
  named_twice (x ∷ links) t (suc l) (suc k) link other ne e f =
      let rest = named_twice links t l k link other (λ same. ne (ap suc same)) e f in
      omega arith

  -- the one link that names a trip is found
  pub place_is : (links : List Link) (t l : ℕ) (link : Link) → times_named side links t ≤ 1 → slice_get links l ≡ Some link → 1 ≤ count_of t (side link.kind) → position (λ (link : Link). has t (side link.kind)) links ≡ Some l
  place_is links t l link once at c =
      position_one (λ (link : Link). has t (side link.kind)) links l link at (le-leb 1 (count_of t (side link.kind)) c)
      (λ k other ne there. lt-leb 1 (count_of t (side other.kind)) (let two = named_twice links t l k link other ne at there in omega arith))

  -- the link that is found, or that none names the trip
  pub record IsNamed (links : List Link) (t : ℕ) (link : Link) : Type 0 where
    pub number : ℕ
    pub found : position (λ (link : Link). has t (side link.kind)) links ≡ Some number
    pub at : slice_get links number ≡ Some link
    pub named : 1 ≤ count_of t (side link.kind)

  pub named_or_not : (links : List Link) (t : ℕ) → ((link : Link) × IsNamed links t link) ⊎ ((position (λ (link : Link). has t (side link.kind)) links ≡ None) × ((l : ℕ) (link : Link) → slice_get links l ≡ Some link → count_of t (side link.kind) ≡ 0))
  named_or_not links t = on (position (λ (link : Link). has t (side link.kind)) links) refl
    where
      on : (o : Option ℕ) → position (λ (link : Link). has t (side link.kind)) links ≡ o → ((link : Link) × IsNamed links t link) ⊎ ((position (λ (link : Link). has t (side link.kind)) links ≡ None) × ((l : ℕ) (link : Link) → slice_get links l ≡ Some link → count_of t (side link.kind) ≡ 0))
      on None e = inr (
        e,
        λ l link at. (let no' = position_none (λ (link : Link). has t (side link.kind)) links l link e at in
            ⊎_elim (λ (c : 0 < count_of t (side link.kind)). absurd (both_ways (has t (side link.kind)) no' (le-leb 1 (count_of t (side link.kind)) (omega arith))))
            (λ (c : count_of t (side link.kind) ≤ 0). omega arith) (cases_lt 0 (count_of t (side link.kind)))),
      )
      on (Some i) e =
          let there = position_some (λ (link : Link). has t (side link.kind)) links i e in
          inl (there.0, record { number = i; found = e; at = there.1; named = leb-true 1 (count_of t (side (there.0).kind)) there.2 })
