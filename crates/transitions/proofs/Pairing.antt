-- Lists of pairs that grow.
use Rattle.std.proofs.Common.{◌≡◌, List, [], ◌∷◌, ◌++◌, inl, inr, subst, Contains}
use Rattle.std.specs.Prelude.{◌⊎◌}
use Rattle.std.proofs.lemmas.List.Elements.{All-push, Contains-push, Contains-append_left}
use Rattle.timetable.specs.Day.{Day}
use Rattle.transitions.specs.declared.pairs.Pair.{Pair}
use Rattle.transitions.specs.Pairs.{IsKnown, Grown}

module _ (day : Day) (before : List Pair) where
  -- what was added is all that is to be added
  pub stays : (after : List Pair) (P Q : Pair → Type 0) → Grown day before after P → ((x : Pair) → IsKnown day x → Q x → P x) → Grown day before after Q
  stays after P Q so_far only = record { known = so_far.known; keeps = so_far.keeps; adds = λ x k q. so_far.adds x k (only x k q) }

  -- one pair more
  pub grows : (after : List Pair) (P Q : Pair → Type 0) (pair : Pair) → Grown day before after P → IsKnown day pair → ((x : Pair) → IsKnown day x → Q x → P x ⊎ (pair ≡ x)) → Grown day before (after ++ pair ∷ []) Q
  grows after P Q pair so_far known either = record {
    known = All-push (IsKnown day) after pair so_far.known known;
    keeps = λ x there. Contains-append_left after (pair ∷ []) x (so_far.keeps x there);
    adds = λ x k q. elim (either x k q) [
      | inl p ↦ Contains-append_left after (pair ∷ []) x (so_far.adds x k p)
      | inr same ↦ subst (λ (y : Pair). Contains (after ++ pair ∷ []) y) same (Contains-push after pair)
    ];
  }

  -- one list of pairs, and then another
  pub joins : (between after : List Pair) (P Q R : Pair → Type 0) → Grown day before between P → Grown day between after Q → ((x : Pair) → IsKnown day x → R x → P x ⊎ Q x) → Grown day before after R
  joins between after P Q R first second either = record {
    known = second.known;
    keeps = λ x there. second.keeps x (first.keeps x there);
    adds = λ x k r. elim (either x k r) [ inl p ↦ second.keeps x (first.adds x k p) | inr q ↦ second.adds x k q ];
  }
