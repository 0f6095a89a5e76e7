-- The pairs of one composition, by the number of units that stay.
use Rattle.std.proofs.Common.{◌≡◌, ℕ, ◌+◌, ◌<◌, Bool, List, [], ◌∷◌, ◌++◌, length, Option, Some, inl, inr, sym, ap, ◌∙◌}
use Rattle.std.proofs.Common.{arith}
use Rattle.std.specs.Prelude.{◌↔◌, ◌⊎◌}
use Rattle.std.proofs.lemmas.Bool.{cases_lt}
use Rattle.rules.specs.declared.records.End.{End}
use Rattle.timetable.specs.Compositions.{compositions_of, composition_at}
use Rattle.timetable.specs.Day.{Day}
use Rattle.timetable.specs.Links.{turned}
use Rattle.timetable.specs.Turns.{staying}
use Rattle.transitions.specs.declared.pairs.Pair.{Pair}
use Rattle.transitions.specs.Pairs.{joined_at, IsKnown, IsFront, IsLeft, IsJoined, Grown}
use Rattle.transitions.proofs.Pairing.{stays, grows}

-- the answer of a search in the catalogue
abbrev pub IsFound : Day → List ℕ → Option ℕ → Type 0
IsFound day ms o = (n : ℕ) → (o ≡ Some n) ↔ ((n < length (compositions_of day)) × (composition_at day n ≡ ms))

module _ (day : Day) (r : Bool) (end : End) (before after : List Pair) (units : ℕ) (o : Option ℕ) where
  module _ (to : ℕ) (is : IsFound day (turned r (staying end (composition_at day to) (units + 1))) o) where
    abbrev Fronts : ℕ → Pair → Type 0
    Fronts most pair = (pair.to ≡ to) × IsFront day r end most pair

    front_or : (x : Pair) → IsKnown day x → Fronts (units + 1) x → Fronts units x ⊎ (o ≡ Some x.from)
    front_or x known front = elim (cases_lt front.1.units (units + 1)) [
      | inl l ↦ inl (front.0, record { units = front.1.units; some = front.1.some; within = omega arith; is = front.1.is })
      | inr l ↦
          let last : front.1.units ≡ units + 1 = omega (arith, front.1.within) in
          inr ((is x.from).1 (
            known.from,
            front.1.is ∙ ap (λ (n : ℕ). turned r (staying end (composition_at day n) front.1.units)) front.0
                ∙ ap (λ (n : ℕ). turned r (staying end (composition_at day to) n)) last,
          ))
    ]

    pub front_none : ((n : ℕ) → o ≡ Some n → ⊥) → Grown day before after (Fronts units) → Grown day before after (Fronts (units + 1))
    front_none none so_far =
        stays day before after (Fronts units) (Fronts (units + 1)) so_far (λ x known front. elim (front_or x known front) [ inl f ↦ f | inr e ↦ absurd (none x.from e) ])

    pub front_more : (from : ℕ) → o ≡ Some from → to < length (compositions_of day) → Grown day before after (Fronts units) → Grown day before (after ++ record { from = from; to = to } ∷ []) (Fronts (units + 1))
    front_more from found listed so_far =
        grows day before after (Fronts units) (Fronts (units + 1)) (record { from = from; to = to }) so_far (record { from = ((is from).0 found).0; to = listed })
        (λ x known front. elim (front_or x known front) [
          | inl f ↦ inl f
          | inr e ↦
              let some : Some from ≡ Some x.from = sym found ∙ e in
              let same : from ≡ x.from = cc in
              inr (ap (λ (n : ℕ). record { from = n; to = to }) same ∙ ap (λ (n : ℕ). record { from = x.from; to = n }) (sym front.0))
        ])

  module _ (from : ℕ) (is : IsFound day (staying end (turned r (composition_at day from)) (units + 1)) o) where
    abbrev Lefts : ℕ → Pair → Type 0
    Lefts most pair = (pair.from ≡ from) × IsLeft day r end most pair

    left_or : (x : Pair) → IsKnown day x → Lefts (units + 1) x → Lefts units x ⊎ (o ≡ Some x.to)
    left_or x known left = elim (cases_lt left.1.units (units + 1)) [
      | inl l ↦ inl (left.0, record { units = left.1.units; some = left.1.some; within = omega arith; is = left.1.is })
      | inr l ↦
          let last : left.1.units ≡ units + 1 = omega (arith, left.1.within) in
          inr ((is x.to).1 (
            known.to,
            left.1.is ∙ ap (λ (n : ℕ). staying end (turned r (composition_at day n)) left.1.units) left.0
                ∙ ap (λ (n : ℕ). staying end (turned r (composition_at day from)) n) last,
          ))
    ]

    pub left_none : ((n : ℕ) → o ≡ Some n → ⊥) → Grown day before after (Lefts units) → Grown day before after (Lefts (units + 1))
    left_none none so_far =
        stays day before after (Lefts units) (Lefts (units + 1)) so_far (λ x known left. elim (left_or x known left) [ inl f ↦ f | inr e ↦ absurd (none x.to e) ])

    pub left_more : (to : ℕ) → o ≡ Some to → from < length (compositions_of day) → Grown day before after (Lefts units) → Grown day before (after ++ record { from = from; to = to } ∷ []) (Lefts (units + 1))
    left_more to found listed so_far =
        grows day before after (Lefts units) (Lefts (units + 1)) (record { from = from; to = to }) so_far (record { from = listed; to = ((is to).0 found).0 })
        (λ x known left. elim (left_or x known left) [
          | inl f ↦ inl f
          | inr e ↦
              let some : Some to ≡ Some x.to = sym found ∙ e in
              let same : to ≡ x.to = cc in
              inr (ap (λ (n : ℕ). record { from = from; to = n }) same ∙ ap (λ (n : ℕ). record { from = n; to = x.to }) (sym left.0))
        ])

-- the pairs of one list of units, by the composition that is joined to it
module _ (day : Day) (r : Bool) (end : End) (before after : List Pair) (units : List ℕ) (part : ℕ) (o : Option ℕ) (to : ℕ) (is : IsFound day (turned r (joined_at end units (composition_at day part))) o) where
  abbrev Joins : ℕ → Pair → Type 0
  Joins few pair = (pair.to ≡ to) × IsJoined day r end units few pair

  joined_or : (x : Pair) → IsKnown day x → Joins (part + 1) x → Joins part x ⊎ (o ≡ Some x.from)
  joined_or x known joined = elim (cases_lt joined.1.part part) [
    | inl l ↦ inl (joined.0, record { part = joined.1.part; below = l; is = joined.1.is })
    | inr l ↦
        let last : joined.1.part ≡ part = omega (arith, joined.1.below) in
        inr ((is x.from).1 (known.from, joined.1.is ∙ ap (λ (n : ℕ). turned r (joined_at end units (composition_at day n))) last))
  ]

  pub joined_none : ((n : ℕ) → o ≡ Some n → ⊥) → Grown day before after (Joins part) → Grown day before after (Joins (part + 1))
  joined_none none so_far =
      stays day before after (Joins part) (Joins (part + 1)) so_far (λ x known joined. elim (joined_or x known joined) [ inl j ↦ j | inr e ↦ absurd (none x.from e) ])

  pub joined_more : (from : ℕ) → o ≡ Some from → to < length (compositions_of day) → Grown day before after (Joins part) → Grown day before (after ++ record { from = from; to = to } ∷ []) (Joins (part + 1))
  joined_more from found listed so_far =
      grows day before after (Joins part) (Joins (part + 1)) (record { from = from; to = to }) so_far (record { from = ((is from).0 found).0; to = listed })
      (λ x known joined. elim (joined_or x known joined) [
        | inl j ↦ inl j
        | inr e ↦
            let some : Some from ≡ Some x.from = sym found ∙ e in
            let same : from ≡ x.from = cc in
            inr (ap (λ (n : ℕ). record { from = n; to = to }) same ∙ ap (λ (n : ℕ). record { from = x.from; to = n }) (sym joined.0))
      ])
