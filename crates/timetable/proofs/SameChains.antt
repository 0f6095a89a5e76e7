-- The chains of an accepted day are the only lists of this kind.
use Rattle.std.proofs.Common.{◌≡◌, inl, inr, ℕ, suc, ◌<◌, ◌≤◌, Bool, List, [], ◌∷◌, length, refl, sym, ap, subst, ◌∙◌}
use Rattle.std.proofs.Common.{arith}
use Rattle.std.specs.Prelude.{◌==◌, if◌then◌else◌}
use Rattle.std.specs.List.{All, AllPairs}
use Rattle.std.proofs.lemmas.Bool.{cases_order, cases_lt, ne_eqb, eq-eqb}
use Rattle.std.proofs.lemmas.List.Elements.{All-head, All-tail, All-cons, All-weaker}
use Rattle.timetable.specs.Accepted.{AreLinks}
use Rattle.timetable.specs.Chains.{Leads, Ends, IsChain, times_in, first_of, AreChains}
use Rattle.timetable.specs.Day.{Day}
use Rattle.timetable.specs.Lists.{count_of}
use Rattle.timetable.specs.Running.{EachFollows}
use Rattle.timetable.proofs.Leading.{one_next}
use Rattle.timetable.proofs.WholeChains.{unled_later}

-- whole chains, whose first trips rise
record AreRising (day : Day) (chains : List (List ℕ)) : Type 0 where
  each : All (IsChain day) chains
  rise : AllPairs (λ a b. first_of a < first_of b) chains

rest_rises : (day : Day) (chain : List ℕ) (chains : List (List ℕ)) → AreRising day (chain ∷ chains) → AreRising day chains
rest_rises day chain chains are = record {
  each = All-tail (IsChain day) chain chains are.each;
  rise = λ i j d before below. are.rise (suc i) (suc j) d (omega arith) (omega arith);
}

rest_after : (day : Day) (chain : List ℕ) (chains : List (List ℕ)) → AreRising day (chain ∷ chains) → All (λ other. first_of chain < first_of other) chains
rest_after day chain chains are = λ k d below. are.rise 0 (suc k) d (omega arith) (omega arith)

-- a trip that no link leads to is in a chain only as its first
first_only : (day : Day) (chain : List ℕ) (t : ℕ) → IsChain day chain → ((a : ℕ) → ¬ Leads day a t) → count_of t chain ≡ (if first_of chain == t then 1 else 0)
first_only day [] t is unled = absurd is.begins
first_only day (x ∷ xs) t is unled = omega (arith, unled_later day x xs t is.follows unled)

-- and in no chain whose first trip is another
not_later : (day : Day) (chains : List (List ℕ)) (t : ℕ) → All (IsChain day) chains → ((a : ℕ) → ¬ Leads day a t) → All (λ chain. t < first_of chain) chains → times_in chains t ≡ 0
not_later day [] t each unled after = refl
not_later day (chain ∷ chains) t each unled after =
    let here : t < first_of chain = All-head (λ chain. t < first_of chain) chain chains after in
    let other : (first_of chain ≡ t → ⊥) = λ same. absurd (omega arith) in
    let none : count_of t chain ≡ 0 = first_only day chain t (All-head (IsChain day) chain chains each) unled ∙ ap (λ (test : Bool). if test then 1 else 0) (ne_eqb (first_of chain) t other) in
    omega (arith, not_later day chains t (All-tail (IsChain day) chain chains each) unled (All-tail (λ chain. t < first_of chain) chain chains after))

first_unled : (day : Day) (chain : List ℕ) → IsChain day chain → (a : ℕ) → ¬ Leads day a (first_of chain)
first_unled day [] is = absurd is.begins
first_unled day (x ∷ xs) is = is.begins

first_once : (day : Day) (chain : List ℕ) → IsChain day chain → 1 ≤ count_of (first_of chain) chain
first_once day chain is =
    let here : count_of (first_of chain) chain ≡ 1 = first_only day chain (first_of chain) is (first_unled day chain is) ∙ ap (λ (test : Bool). if test then 1 else 0) (eq-eqb (first_of chain) (first_of chain) refl) in
    omega arith

module _ (day : Day) (links : AreLinks day) where
  -- two chains from one trip are one
  same_rest : (x : ℕ) (xs ys : List ℕ) → EachFollows (Leads day) (x ∷ xs) → Ends day (x ∷ xs) → EachFollows (Leads day) (x ∷ ys) → Ends day (x ∷ ys) → xs ≡ ys
  same_rest x [] [] follows ends follows' ends' = refl
  same_rest x [] (z ∷ ys) follows ends follows' ends' = absurd (ends z follows'.0)
  same_rest x (y ∷ xs) [] follows ends follows' ends' = absurd (ends' y follows.0)
  same_rest x (y ∷ xs) (z ∷ ys) follows ends follows' ends' =
      let same : z ≡ y = one_next day links x z y follows'.0 follows.0 in
      ap (λ (ts : List ℕ). y ∷ ts) (same_rest y xs ys follows.1 ends (subst (λ (t : ℕ). EachFollows (Leads day) (t ∷ ys)) same follows'.1) (subst (λ (t : ℕ). Ends day (t ∷ ys)) same ends'))
      ∙ ap (λ (t : ℕ). t ∷ ys) (sym same)

  same_chain : (c d : List ℕ) → IsChain day c → IsChain day d → first_of c ≡ first_of d → c ≡ d
  same_chain [] d is is' same = absurd is.begins
  same_chain (x ∷ xs) [] is is' same = absurd is'.begins
  same_chain (x ∷ xs) (y ∷ ys) is is' same =
      ap (λ (ts : List ℕ). x ∷ ts) (same_rest x xs ys is.follows is.ends (subst (λ (t : ℕ). EachFollows (Leads day) (t ∷ ys)) (sym same) is'.follows) (subst (λ (t : ℕ). Ends day (t ∷ ys)) (sym same) is'.ends))
      ∙ ap (λ (t : ℕ). t ∷ ys) same

  -- whole chains with the same first trips, in rising order, are the same
  same_lists : (cs ds : List (List ℕ)) → AreRising day cs → AreRising day ds → ((t : ℕ) → times_in cs t ≡ times_in ds t) → cs ≡ ds
  same_lists [] [] are are' times = refl
  same_lists [] (d ∷ ds) are are' times =
      let there : 1 ≤ count_of (first_of d) d = first_once day d (All-head (IsChain day) d ds are'.each) in
      absurd (omega (arith, times (first_of d)))
  same_lists (c ∷ cs) [] are are' times =
      let there : 1 ≤ count_of (first_of c) c = first_once day c (All-head (IsChain day) c cs are.each) in
      absurd (omega (arith, times (first_of c)))
  same_lists (c ∷ cs) (d ∷ ds) are are' times =
      let is : IsChain day c = All-head (IsChain day) c cs are.each in
      let is' : IsChain day d = All-head (IsChain day) d ds are'.each in
      elim (cases_order (first_of c) (first_of d)) [
        | inl first ↦
            let same : c ≡ d = same_chain c d is is' first in
            let rest : (t : ℕ) → times_in cs t ≡ times_in ds t = λ t. (let counts : count_of t c ≡ count_of t d = ap (λ (chain : List ℕ). count_of t chain) same in omega (arith, times t)) in
            ap (λ (chain : List ℕ). chain ∷ cs) same ∙ ap (λ (chains : List (List ℕ)). d ∷ chains) (same_lists cs ds (rest_rises day c cs are) (rest_rises day d ds are') rest)
        | inr differ ↦ absurd (elim differ [
          | inl less ↦ missing c cs d ds is are' less times
          | inr less ↦ missing d ds c cs is' are less (λ t. sym (times t))
        ])
      ]
    where
      missing : (c : List ℕ) (cs : List (List ℕ)) (d : List ℕ) (ds : List (List ℕ)) → IsChain day c → AreRising day (d ∷ ds) → first_of c < first_of d
          → ((t : ℕ) → times_in (c ∷ cs) t ≡ times_in (d ∷ ds) t) → ⊥
      missing c cs d ds is are less times =
          let there : 1 ≤ count_of (first_of c) c = first_once day c is in
          let after : All (λ other. first_of d < first_of other) ds = rest_after day d ds are in
          let all_after : All (λ other. first_of c < first_of other) (d ∷ ds) = All-cons (λ other. first_of c < first_of other) d ds less (All-weaker (λ other. first_of d < first_of other) (λ other. first_of c < first_of other) (λ other later. omega arith) ds after) in
          let none : times_in (d ∷ ds) (first_of c) ≡ 0 = not_later day (d ∷ ds) (first_of c) are.each (first_unled day c is) all_after in
          absurd (omega (arith, times (first_of c)))

-- two lists that are the chains of a day are one
pub chains_are_one : (day : Day) (cs ds : List (List ℕ)) → AreLinks day → AreChains day cs → AreChains day ds → cs ≡ ds
chains_are_one day cs ds links are are' =
    same_lists day links cs ds (record { each = are.each; rise = are.rise }) (record { each = are'.each; rise = are'.rise }) times
  where
    times : (t : ℕ) → times_in cs t ≡ times_in ds t
    times t = elim (cases_lt t (length day.trips)) [
      | inl below ↦ are.once t below ∙ sym (are'.once t below)
      | inr above ↦ are.known t above ∙ sym (are'.known t above)
    ]
