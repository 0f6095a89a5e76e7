-- The pairs of the compositions up to a number.
use Rattle.std.proofs.Common.{◌≡◌, ℕ, ◌+◌, ◌<◌, Bool, List, [], length, inl, inr, subst, arith}
use Rattle.std.specs.Prelude.{◌⊎◌}
use Rattle.std.proofs.lemmas.Bool.{cases_lt}
use Rattle.rules.specs.declared.records.LinkKind.{LinkKind}
use Rattle.timetable.specs.Chains.{leads_from, leads_to}
use Rattle.timetable.specs.Compositions.{composition_at}
use Rattle.timetable.specs.Day.{Day}
use Rattle.transitions.specs.declared.pairs.Pair.{Pair}
use Rattle.transitions.specs.Edges.{IsAdmittedComp}
use Rattle.transitions.specs.Pairs.{uncoupled_at, IsLeft, IsMade, Grown}
use Rattle.transitions.proofs.Pairing.{stays, joins}
use Rattle.transitions.proofs.Reaching.{IsMadeOn, IsLeftOn}

module _ (day : Day) (kind : LinkKind) (r : Bool) (few : ℕ) (pairs : List Pair) where
  abbrev MadeBelow : ℕ → Pair → Type 0
  MadeBelow to pair = (pair.to < to) × IsMadeOn day kind r few pair

  abbrev MadeAt : ℕ → Pair → Type 0
  MadeAt to pair = (pair.to ≡ to) × IsMade day kind r few pair

  abbrev LeftsBelow : ℕ → Pair → Type 0
  LeftsBelow from pair = IsMadeOn day kind r few pair ⊎ ((pair.from < from) × IsLeftOn day kind r pair)

  abbrev LeftsAt : ℕ → Pair → Type 0
  LeftsAt from pair = (pair.from ≡ from) × IsLeft day r (uncoupled_at kind) (length (composition_at day from)) pair

  made_cases : (to : ℕ) (x : Pair) → MadeBelow (to + 1) x → MadeBelow to x ⊎ ((x.to ≡ to) × IsMadeOn day kind r few x)
  made_cases to x made = elim (cases_lt x.to to) [ inl l ↦ inl (l, made.1) | inr l ↦ inr (omega (arith, made.0), made.1) ]

  left_cases : (from : ℕ) (x : Pair) → LeftsBelow (from + 1) x → LeftsBelow from x ⊎ ((x.from ≡ from) × IsLeftOn day kind r x)
  left_cases from x (inl made) = inl (inl made)
  left_cases from x (inr left) = elim (cases_lt x.from from) [ inl l ↦ inl (inr (l, left.1)) | inr l ↦ inr (omega (arith, left.0), left.1) ]

  pub made_row : (to : ℕ) (after : List Pair) → Grown day [] pairs (MadeBelow to) → Grown day pairs after (MadeAt to) → Grown day [] after (MadeBelow (to + 1))
  made_row to after so_far row =
      joins day [] pairs after (MadeBelow to) (MadeAt to) (MadeBelow (to + 1)) so_far row
      (λ x known made. elim (made_cases to x made) [
        | inl m ↦ inl m
        | inr m ↦ inr (m.0, m.1.1)
      ])

  pub no_made_row : (to : ℕ) → Grown day [] pairs (MadeBelow to) → (IsAdmittedComp day (leads_to kind) to → ⊥) → Grown day [] pairs (MadeBelow (to + 1))
  no_made_row to so_far none =
      stays day [] pairs (MadeBelow to) (MadeBelow (to + 1)) so_far
      (λ x known made. elim (made_cases to x made) [ inl m ↦ m | inr m ↦ absurd (none (subst (λ (n : ℕ). IsAdmittedComp day (leads_to kind) n) m.0 m.1.0)) ])

  pub left_row : (from : ℕ) (after : List Pair) → Grown day [] pairs (LeftsBelow from) → Grown day pairs after (LeftsAt from) → Grown day [] after (LeftsBelow (from + 1))
  left_row from after so_far row =
      joins day [] pairs after (LeftsBelow from) (LeftsAt from) (LeftsBelow (from + 1)) so_far row
      (λ x known left. elim (left_cases from x left) [
        | inl m ↦ inl m
        | inr m ↦ inr (m.0, subst (λ (n : ℕ). IsLeft day r (uncoupled_at kind) (length (composition_at day n)) x) m.0 m.1.1)
      ])

  pub no_left_row : (from : ℕ) → Grown day [] pairs (LeftsBelow from) → (IsAdmittedComp day (leads_from kind) from → ⊥) → Grown day [] pairs (LeftsBelow (from + 1))
  no_left_row from so_far none =
      stays day [] pairs (LeftsBelow from) (LeftsBelow (from + 1)) so_far
      (λ x known left. elim (left_cases from x left) [ inl m ↦ m | inr m ↦ absurd (none (subst (λ (n : ℕ). IsAdmittedComp day (leads_from kind) n) m.0 m.1.0)) ])
