-- The entries of numbers that are not 0, index by index.
use Rattle.std.proofs.Common.{◌≡◌, ◌≢◌, ◌<◌, ◌≤◌, ◌+◌, ◌-◌, ℕ, zero, suc, List, [], ◌∷◌, ◌++◌, length, Option, Some}
use Rattle.std.proofs.Common.{Bool, ◌==◌, if◌then◌else◌, refl, sym, ap, subst, ◌∙◌, arith, append-nil, append_assoc}
use Rattle.std.proofs.Common.{length-append, ℤ, pos, negsuc, unsigned_abs, inl, inr, ◌⊎◌}
use Rattle.std.specs.Prelude.{MatchOption}
use Rattle.std.proofs.lemmas.Bool.{cases_lt, eq-eqb, ne_eqb}
use Rattle.branch_tree.specs.declared.multipliers.Entry.{Entry}
use Rattle.branch_tree.specs.Entries.{IsPastLast, entry_of, last_entry_of, value_at}
use Rattle.price_bound.specs.Entered.{entries_below}

one_entry : (index n : ℕ) (v : ℤ) → unsigned_abs v ≡ suc n → entry_of index v ≡ record { index = index; value = v } ∷ []
one_entry index n v e =
    ap (λ (b : Bool). if◌then◌else◌ {A = List Entry} b [] (record { index = index; value = v } ∷ []))
    (ap (λ (k : ℕ). k == 0) e ∙ ne_eqb (suc n) 0 (λ e. absurd (omega arith)))

-- the entry of a number, or none where it is 0
no_or_one : (index : ℕ) (v : ℤ) → ((v ≡ pos 0) × (entry_of index v ≡ [])) ⊎ (entry_of index v ≡ record { index = index; value = v } ∷ [])
no_or_one index (pos zero) = inl (refl, refl)
no_or_one index (pos (suc n)) = inr (one_entry index n (pos (suc n)) refl)
no_or_one index (negsuc n) = inr (one_entry index n (negsuc n) refl)

last_entry_of-push : (entries : List Entry) (entry : Entry) → last_entry_of (entries ++ entry ∷ []) ≡ Some entry
last_entry_of-push [] entry = refl
last_entry_of-push (x ∷ []) entry = refl
last_entry_of-push (x ∷ y ∷ entries) entry = last_entry_of-push (y ∷ entries) entry

-- entries that have no value at an index change none there
value_at-more : (entries more : List Entry) (index : ℕ) → value_at more index ≡ pos 0 → value_at (entries ++ more) index ≡ value_at entries index
value_at-more [] more index none = none
value_at-more (entry ∷ entries) more index none = ap (λ (v : ℤ). if index == entry.index then entry.value else v) (value_at-more entries more index none)

value_at-one : (index : ℕ) (v : ℤ) → value_at (entry_of index v) index ≡ v
value_at-one index v = elim (no_or_one index v) [
  | inl none ↦ ap (λ (entries : List Entry). value_at entries index) none.1 ∙ sym none.0
  | inr one ↦
      ap (λ (entries : List Entry). value_at entries index) one
      ∙ ap (λ (b : Bool). if b then v else pos 0) (eq-eqb index index refl)
]

value_at-other : (at index : ℕ) (v : ℤ) → index ≢ at → value_at (entry_of at v) index ≡ pos 0
value_at-other at index v ne = elim (no_or_one at v) [
  | inl none ↦ ap (λ (entries : List Entry). value_at entries index) none.1
  | inr one ↦
      ap (λ (entries : List Entry). value_at entries index) one
      ∙ ap (λ (b : Bool). if b then v else pos 0) (ne_eqb index at ne)
]

module _ (value : ℕ → ℤ) where
  pub entries_next : (n : ℕ) → entries_below value (suc n) ≡ entries_below value n ++ entry_of n (value n)
  unfolding entries_below
  entries_next n = refl

  pub no_entries : entries_below value 0 ≡ []
  unfolding entries_below
  no_entries = refl

  -- indices of no value have no entries
  pub none_between : (a k : ℕ) → ((i : ℕ) → a ≤ i → i < a + k → value i ≡ pos 0) → entries_below value (a + k) ≡ entries_below value a
  none_between a zero none = let e : a + 0 ≡ a = omega arith in ap (entries_below value) e
  none_between a (suc k) none =
      let e : a + suc k ≡ suc (a + k) = omega arith in
      ap (entries_below value) e ∙ entries_next (a + k)
      ∙ ap (λ (v : ℤ). entries_below value (a + k) ++ entry_of (a + k) v) (none (a + k) (omega arith) (omega arith))
      ∙ append-nil (entries_below value (a + k)) ∙ none_between a k (λ i from below. none i from (omega arith))

  pub none_up_to : (a b : ℕ) → a ≤ b → ((i : ℕ) → a ≤ i → i < b → value i ≡ pos 0) → entries_below value b ≡ entries_below value a
  none_up_to a b le none =
      let e : a + (b - a) ≡ b = omega arith in
      ap (entries_below value) (sym e) ∙ none_between a (b - a) (λ i from below. none i from (omega arith))

  pub few_entries : (n : ℕ) → length (entries_below value n) ≤ n
  few_entries zero = let e = ap length no_entries in omega arith
  few_entries (suc n) =
      let e = ap length (entries_next n) in
      let parts = length-append (entries_below value n) (entry_of n (value n)) in
      let rest = few_entries n in
      elim (no_or_one n (value n)) [
        | inl none ↦ let l = ap length none.1 in omega arith
        | inr one ↦ let l = ap length one in omega arith
      ]

  pub past_last : (n index : ℕ) → n ≤ index → IsPastLast (entries_below value n) index
  past_last zero index le = subst (λ (entries : List Entry). IsPastLast entries index) (sym no_entries) tt
  past_last (suc n) index le = subst (λ (entries : List Entry). IsPastLast entries index) (sym (entries_next n)) (elim (no_or_one n (value n)) [
    | inl none ↦
        subst (λ (more : List Entry). IsPastLast (entries_below value n ++ more) index) (sym none.1)
        (subst (λ (entries : List Entry). IsPastLast entries index) (sym (append-nil (entries_below value n))) (past_last n index (omega arith)))
    | inr one ↦
        subst (λ (more : List Entry). IsPastLast (entries_below value n ++ more) index) (sym one)
        (subst (λ (o : Option Entry). MatchOption o (Unit {0}) (λ last. last.index < index)) (sym (last_entry_of-push (entries_below value n) (record { index = n; value = value n })))
        (omega arith))
  ])

  pub value_beyond : (n index : ℕ) → n ≤ index → value_at (entries_below value n) index ≡ pos 0
  value_beyond zero index le = ap (λ (entries : List Entry). value_at entries index) no_entries
  value_beyond (suc n) index le =
      ap (λ (entries : List Entry). value_at entries index) (entries_next n)
      ∙ value_at-more (entries_below value n) (entry_of n (value n)) index (value_at-other n index (value n) (λ e. absurd (omega arith)))
      ∙ value_beyond n index (omega arith)

  -- what comes after entries of lower indices
  value_at-after : (n index : ℕ) (more : List Entry) → n ≤ index → value_at (entries_below value n ++ more) index ≡ value_at more index
  value_at-after zero index more le = ap (λ (entries : List Entry). value_at (entries ++ more) index) no_entries
  value_at-after (suc n) index more le =
      ap (λ (entries : List Entry). value_at (entries ++ more) index) (entries_next n)
      ∙ ap (λ (entries : List Entry). value_at entries index) (append_assoc (entries_below value n) (entry_of n (value n)) more)
      ∙ value_at-after n index (entry_of n (value n) ++ more) (omega arith)
      ∙ by (no_or_one n (value n))
    where
      by : ((value n ≡ pos 0) × (entry_of n (value n) ≡ [])) ⊎ (entry_of n (value n) ≡ record { index = n; value = value n } ∷ []) → value_at (entry_of n (value n) ++ more) index ≡ value_at more index
      by (inl none) = ap (λ (entries : List Entry). value_at (entries ++ more) index) none.1
      by (inr one) =
          ap (λ (entries : List Entry). value_at (entries ++ more) index) one
          ∙ ap (λ (b : Bool). if b then value n else value_at more index) (ne_eqb index n (λ e. absurd (omega arith)))

  pub value_below : (n index : ℕ) → index < n → value_at (entries_below value n) index ≡ value index
  value_below zero index less = absurd (omega arith)
  value_below (suc n) index less =
      ap (λ (entries : List Entry). value_at entries index) (entries_next n)
      ∙ (elim (cases_lt index n) [
        | inl before ↦
            value_at-more (entries_below value n) (entry_of n (value n)) index (value_at-other n index (value n) (λ e. absurd (omega arith)))
            ∙ value_below n index before
        | inr last ↦
            let e : n ≡ index = omega arith in
            subst (λ (i : ℕ). value_at (entries_below value n ++ entry_of n (value n)) i ≡ value i) e (value_at-after n n (entry_of n (value n)) (omega arith) ∙ value_at-one n (value n))
      ])
