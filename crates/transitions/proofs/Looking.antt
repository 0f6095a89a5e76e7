-- Edges that are found pair by pair, in order.
use Rattle.std.proofs.Common.{◌≡◌, ℕ, ◌+◌, ◌<◌, List, [], ◌∷◌, ◌++◌, length, Some, inl, inr, get_or, refl, sym, ap}
use Rattle.std.proofs.Common.{subst, ◌∙◌, arith, Contains, AllPairs}
use Rattle.std.specs.Prelude.{◌↔◌, ◌⊎◌}
use Rattle.std.proofs.lemmas.Bool.{cases_lt}
use Rattle.std.proofs.lemmas.List.Elements.{Contains-push, Contains-push_cases, Contains-append_left, Contains-get_or}
use Rattle.std.proofs.lemmas.List.Quantifiers.{all_pairs_push}
use Rattle.transitions.specs.declared.edge.Edge.{Edge}
use Rattle.transitions.specs.declared.pairs.Pair.{Pair}
use Rattle.transitions.specs.Between.{IsBetween, AreEdgesBy}
use Rattle.transitions.specs.Edges.{IsBefore, AreInOrder}
use Rattle.transitions.specs.Pairs.{IsBeforePair}

abbrev pair_of : Edge → Pair
pair_of x = record { from = x.from; to = x.to }

-- the pair is one of the first
abbrev pub IsAmong : List Pair → ℕ → Pair → Type 0
IsAmong pairs count pair = (k : ℕ) × (k < count) × (get_or pairs k pair ≡ pair)

-- the edges are those between the first pairs
pub record Looked (Allows : Edge → Type 0) (pairs : List Pair) (count : ℕ) (edges : List Edge) : Type 0 where
  pub in_order : AreInOrder edges
  pub exact : (x : Edge) → Contains edges x ↔ (Allows x × IsAmong pairs count (pair_of x))

same_pair : (x : Edge) (pair : Pair) → pair ≡ pair_of x → IsBetween pair.from pair.to x
same_pair x pair is = record { origin = sym (ap (λ (p : Pair). p.from) is); goal = sym (ap (λ (p : Pair). p.to) is) }

between_pair : (x : Edge) (pair : Pair) → IsBetween pair.from pair.to x → pair ≡ pair_of x
between_pair x pair between = ap (λ (n : ℕ). record { from = n; to = pair.to }) (sym between.origin) ∙ ap (λ (n : ℕ). record { from = x.from; to = n }) (sym between.goal)

module _ (Allows : Edge → Type 0) (pairs : List Pair) where
  module _ (count : ℕ) (edges : List Edge) (looked : Looked Allows pairs count edges) (pair : Pair) (within : count < length pairs) (is : (d : Pair) → pair ≡ get_or pairs count d) where
    more : (x : Pair) → IsAmong pairs count x → IsAmong pairs (count + 1) x
    more x among = (among.0, omega (arith, among.1), among.2)

    here : (x : Pair) → pair ≡ x → IsAmong pairs (count + 1) x
    here x same = (count, omega arith, sym (is x) ∙ same)

    among_or : (x : Pair) → IsAmong pairs (count + 1) x → IsAmong pairs count x ⊎ (pair ≡ x)
    among_or x among = elim (cases_lt among.0 count) [
      | inl l ↦ inl (among.0, l, among.2)
      | inr l ↦ let e : count ≡ among.0 = omega (arith, among.1) in inr (is x ∙ ap (λ (k : ℕ). get_or pairs k x) e ∙ among.2)
    ]

    -- the pair has no edge
    pub has_none : ((x : Edge) → Allows x → IsBetween pair.from pair.to x → ⊥) → Looked Allows pairs (count + 1) edges
    has_none none = record {
      in_order = looked.in_order;
      exact = λ x. (
        λ there. let h = (looked.exact x).0 there in (h.0, more (pair_of x) h.1),
        λ h. elim (among_or (pair_of x) h.1) [ inl among ↦ (looked.exact x).1 (h.0, among) | inr same ↦ absurd (none x h.0 (same_pair x pair same)) ],
      );
    }

    -- the pair has this edge
    pub has_edge : AllPairs IsBeforePair pairs → (e : Edge) → ((x : Edge) → (Some e ≡ Some x) ↔ (Allows x × IsBetween pair.from pair.to x)) → Looked Allows pairs (count + 1) (edges ++ e ∷ [])
    has_edge in_order e told =
        let last = (told e).0 refl in record {
          in_order = all_pairs_push IsBefore edges e looked.in_order
              (λ k d below.
              let among = ((looked.exact (get_or edges k d)).0 (Contains-get_or edges k d below)).1 in
              let first : Pair = pair_of (get_or edges k d) in
              subst (λ (x : Pair). IsBeforePair first x) (sym (is first) ∙ between_pair e pair last.1)
              (subst (λ (x : Pair). IsBeforePair x (get_or pairs count first)) among.2 (in_order among.0 count first among.1 within)));
          exact = λ x. (
            λ there. elim (Contains-push_cases edges e x there) [
              | inl l ↦ let h = (looked.exact x).0 l in (h.0, more (pair_of x) h.1)
              | inr same ↦ let h = (told x).0 (ap (λ (y : Edge). Some y) same) in (h.0, here (pair_of x) (between_pair x pair h.1))
            ],
            λ h. elim (among_or (pair_of x) h.1) [
              | inl among ↦ Contains-append_left edges (e ∷ []) x ((looked.exact x).1 (h.0, among))
              | inr same ↦
                  let some : Some e ≡ Some x = (told x).1 (h.0, same_pair x pair same) in
                  let one : e ≡ x = cc in
                  subst (λ (y : Edge). Contains (edges ++ e ∷ []) y) one (Contains-push edges e)
            ],
          );
        }

  -- all pairs were looked at
  pub all_looked : (edges : List Edge) → Looked Allows pairs (length pairs) edges → ((x : Edge) → Allows x → Contains pairs (pair_of x)) → AreEdgesBy Allows edges
  all_looked edges looked have = record {
    in_order = looked.in_order;
    exact = λ x. (λ there. ((looked.exact x).0 there).0, λ allowed. (looked.exact x).1 (allowed, have x allowed));
  }
