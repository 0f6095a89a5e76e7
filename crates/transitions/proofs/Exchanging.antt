-- The pairs of one departing composition by exchanges, by the number of units that are coupled.
use Rattle.std.proofs.Common.{◌≡◌, ℕ, ◌+◌, ◌-◌, ◌<◌, Bool, List, length, inl, inr, subst, arith}
use Rattle.std.specs.Prelude.{◌⊎◌}
use Rattle.std.proofs.lemmas.Bool.{cases_lt}
use Rattle.rules.specs.declared.records.End.{End}
use Rattle.timetable.specs.Compositions.{composition_at}
use Rattle.timetable.specs.Day.{Day}
use Rattle.timetable.specs.Turns.{staying}
use Rattle.transitions.specs.declared.pairs.Pair.{Pair}
use Rattle.transitions.specs.Pairs.{IsJoined, IsExchanged, Grown}
use Rattle.transitions.proofs.Pairing.{stays, joins}

module _ (day : Day) (r : Bool) (uncouple couple : End) (few to : ℕ) (before after : List Pair) (coupled : ℕ) where
  abbrev Exchanges : ℕ → Pair → Type 0
  Exchanges most pair = (pair.to ≡ to) × IsExchanged day r uncouple couple few most pair

  -- what stays when one unit more was coupled
  abbrev rest : ℕ → ℕ → List ℕ
  rest t n = staying couple (composition_at day t) (length (composition_at day t) - n)

  record ByOneMore (pair : Pair) : Type 0 where
    goal : pair.to ≡ to
    less : coupled + 1 < length (composition_at day to)
    joined : IsJoined day r uncouple (rest to (coupled + 1)) few pair

  exchanged_or : (x : Pair) → Exchanges (coupled + 1) x → Exchanges coupled x ⊎ ByOneMore x
  exchanged_or x e = elim (cases_lt e.1.coupled (coupled + 1)) [
    | inl l ↦ inl (e.0, record { coupled = e.1.coupled; some = e.1.some; within = omega arith; less = e.1.less; joined = e.1.joined })
    | inr l ↦
        let last : e.1.coupled ≡ coupled + 1 = omega (arith, e.1.within) in
        inr (record {
          goal = e.0;
          less = subst (λ (n : ℕ). coupled + 1 < length (composition_at day n)) e.0 (subst (λ (n : ℕ). n < length (composition_at day x.to)) last e.1.less);
          joined = subst (λ (n : ℕ). IsJoined day r uncouple (rest n (coupled + 1)) few x) e.0 (subst (λ (n : ℕ). IsJoined day r uncouple (rest x.to n) few x) last e.1.joined);
        })
  ]

  pub exchanged_none : (coupled + 1 < length (composition_at day to) → ⊥) → Grown day before after (Exchanges coupled) → Grown day before after (Exchanges (coupled + 1))
  exchanged_none none so_far =
      stays day before after (Exchanges coupled) (Exchanges (coupled + 1)) so_far (λ x known e. elim (exchanged_or x e) [ inl f ↦ f | inr more ↦ absurd (none more.less) ])

  pub exchanged_more : (next : List Pair) → Grown day before after (Exchanges coupled)
      → Grown day after next (λ (pair : Pair). (pair.to ≡ to) × IsJoined day r uncouple (rest to (coupled + 1)) few pair) → Grown day before next (Exchanges (coupled + 1))
  exchanged_more next so_far row =
      joins day before after next (Exchanges coupled) (λ (pair : Pair). (pair.to ≡ to) × IsJoined day r uncouple (rest to (coupled + 1)) few pair) (Exchanges (coupled + 1)) so_far row
      (λ x known e. elim (exchanged_or x e) [ inl f ↦ inl f | inr more ↦ inr (more.goal, more.joined) ])
