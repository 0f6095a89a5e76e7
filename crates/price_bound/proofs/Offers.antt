-- The cells that the edges of a stage offer: the row that is left has, for each composition, the first offer of least
-- value.
use Rattle.std.proofs.Common.{◌≡◌, ◌≢◌, ℕ, zero, suc, ◌<◌, ◌≤◌, ◌⊎◌, List, [], ◌∷◌, length, get_or, replicate, Bool}
use Rattle.std.proofs.Common.{true, false, Option, Some, None, refl, sym, ap, ◌∙◌, subst, arith, ℤ, ◌+ℤ◌, ◌<ℤ◌, ◌≤ℤ◌}
use Rattle.std.proofs.Common.{inl, inr, Contains, length-set, int_lt}
use Rattle.std.specs.Prelude.{fold, if◌then◌else◌}
use Rattle.std.proofs.lemmas.Bool.{cases_eq}
use Rattle.std.proofs.lemmas.Int.{ints, by_lt_z}
use Rattle.std.proofs.lemmas.List.{length-replicate, get_or-replicate, get_or-set_same, get_or-set_other}
use Rattle.transitions.specs.declared.edge.Edge.{Edge}
use Rattle.transitions.specs.Edges.{AreInOrder, IsBefore}
use Rattle.price_bound.specs.declared.cells.Cell.{Cell}
use Rattle.price_bound.specs.Paths.{Stage, lower_cell, offer, offer_by, offered}

-- one cell that is there is one cell
pub cell_is : (a b : Cell) → Some a ≡ Some b → a ≡ b
cell_is a b e = cc

-- a cell is no later than another: its value is lower, or they are level and its next composition is no higher
abbrev pub IsNoLater : Cell → Cell → Type 0
IsNoLater cell other = (cell.value <ℤ other.value) ⊎ ((cell.value ≡ other.value) × (cell.next ≤ other.next))

-- ---- the lower of two cells

pub data LowerCase (cell other : Cell) : Type 0 where
  kept : lower_cell (Some cell) (Some other) ≡ Some cell → cell.value ≤ℤ other.value → LowerCase cell other
  replaced : lower_cell (Some cell) (Some other) ≡ Some other → other.value <ℤ cell.value → LowerCase cell other

pub lower_cases : (cell other : Cell) → LowerCase cell other
lower_cases cell other = on (int_lt other.value cell.value) refl
  where
    below : (a b : ℤ) → int_lt a b ≡ true → a <ℤ b
    below a b e = by_lt_z a b (λ less. less) (λ most. absurd (omega (arith, ints, e, most)))

    above : (a b : ℤ) → int_lt a b ≡ false → b ≤ℤ a
    above a b e = by_lt_z a b (λ less. absurd (omega (arith, ints, e, less))) (λ most. most)

    on : (b : Bool) → int_lt other.value cell.value ≡ b → LowerCase cell other
    on true e = replaced (ap (λ (b : Bool). if b then Some other else Some cell) e) (below other.value cell.value e)
    on false e = kept (ap (λ (b : Bool). if b then Some other else Some cell) e) (above other.value cell.value e)

module _ (stage : Stage) (ahead : List (Option Cell)) where
  -- a cell is the first offer of least value to a composition, among the edges that were seen
  pub record IsLeastOffer (Seen : Edge → Type 0) (comp : ℕ) (cell : Cell) : Type 0 where
    pub edge : Edge
    pub seen : Seen edge
    pub from : edge.from ≡ comp
    pub offers : offer stage ahead edge ≡ Some cell
    pub least : (other : Edge) (offered : Cell) → Seen other → other.from ≡ comp → offer stage ahead other ≡ Some offered → IsNoLater cell offered

  -- what a row has for a composition: nothing where nothing was offered, and else the first offer of least value
  pub record IsOffered (Seen : Edge → Type 0) (comp : ℕ) (cell : Option Cell) : Type 0 where
    pub none : cell ≡ None → (edge : Edge) → Seen edge → edge.from ≡ comp → offer stage ahead edge ≡ None
    pub some : (it : Cell) → cell ≡ Some it → IsLeastOffer Seen comp it

  -- the edge that is looked at is later than all that were seen
  module _ (Seen : Edge → Type 0) (edge : Edge) (later : (seen : Edge) → Seen seen → IsBefore seen edge) where
    abbrev More : Edge → Type 0
    More other = Seen other ⊎ (other ≡ edge)

    -- an edge from elsewhere changes nothing
    elsewhere : (comp : ℕ) (cell : Option Cell) → edge.from ≢ comp → IsOffered Seen comp cell → IsOffered More comp cell
    elsewhere comp cell differ is = record {
      none = λ e other more from. elim more [
        | inl seen ↦ is.none e other seen from
        | inr same ↦ absurd (differ (ap (λ (x : Edge). x.from) (sym same) ∙ from))
      ];
      some = λ it e. let before : IsLeastOffer Seen comp it = is.some it e in record {
        edge = before.edge;
        seen = inl before.seen;
        from = before.from;
        offers = before.offers;
        least = λ other offered more from offers. elim more [
          | inl seen ↦ before.least other offered seen from offers
          | inr same ↦ absurd (differ (ap (λ (x : Edge). x.from) (sym same) ∙ from))
        ];
      };
    }

    -- nothing is offered
    nothing : (comp : ℕ) (cell : Option Cell) → offer stage ahead edge ≡ None → IsOffered Seen comp cell → IsOffered More comp cell
    nothing comp cell without is = record {
      none = λ e other more from. elim more [
        | inl seen ↦ is.none e other seen from
        | inr same ↦ ap (offer stage ahead) same ∙ without
      ];
      some = λ it e. let before : IsLeastOffer Seen comp it = is.some it e in record {
        edge = before.edge;
        seen = inl before.seen;
        from = before.from;
        offers = before.offers;
        least = λ other offered more from offers. elim more [
          | inl seen ↦ before.least other offered seen from offers
          | inr same ↦ absurd (let none : Some offered ≡ None = sym offers ∙ ap (offer stage ahead) same ∙ without in cc)
        ];
      };
    }

    no_later : (cell other : Cell) → cell ≡ other → IsNoLater cell other
    no_later cell other e = inr (ap (λ (x : Cell). x.value) e, (let next : cell.next ≡ other.next = ap (λ (x : Cell). x.next) e in omega (arith, next)))

    -- the first offer
    first_offer : (comp : ℕ) (new : Cell) → edge.from ≡ comp → offer stage ahead edge ≡ Some new → IsOffered Seen comp None → IsOffered More comp (Some new)
    first_offer comp new here offers is = record {
      none = λ e. absurd cc;
      some = λ it e. let same : new ≡ it = cell_is new it e in record {
        edge = edge;
        seen = inr refl;
        from = here;
        offers = offers ∙ e;
        least = λ other offered more from other_offers. elim more [
          | inl seen ↦ absurd (let none : None ≡ Some offered = sym (is.none refl other seen from) ∙ other_offers in cc)
          | inr last ↦ no_later it offered (sym same ∙ cell_is new offered (sym offers ∙ sym (ap (offer stage ahead) last) ∙ other_offers))
        ];
      };
    }

    less_less : (a b c : ℤ) → a <ℤ b → (b <ℤ c) ⊎ (b ≡ c) → a <ℤ c
    less_less a b c less (inl more) = omega (arith, ints, less, more)
    less_less a b c less (inr level) = omega (arith, ints, less, level)

    -- a better offer
    better_offer : (comp : ℕ) (old new : Cell) → edge.from ≡ comp → offer stage ahead edge ≡ Some new → new.value <ℤ old.value → IsOffered Seen comp (Some old) → IsOffered More comp (Some new)
    better_offer comp old new here offers less is = record {
      none = λ e. absurd cc;
      some = λ it e. let same : new ≡ it = cell_is new it e in record {
        edge = edge;
        seen = inr refl;
        from = here;
        offers = offers ∙ e;
        least = λ other offered more from other_offers. elim more [
          | inl seen ↦
              let before : IsLeastOffer Seen comp old = is.some old refl in
              let lower : it.value <ℤ old.value = subst (λ (x : Cell). x.value <ℤ old.value) same less in
              inl (elim (before.least other offered seen from other_offers) [
                | inl more ↦ less_less it.value old.value offered.value lower (inl more)
                | inr level ↦ less_less it.value old.value offered.value lower (inr level.0)
              ])
          | inr last ↦ no_later it offered (sym same ∙ cell_is new offered (sym offers ∙ sym (ap (offer stage ahead) last) ∙ other_offers))
        ];
      };
    }

    level_or_less : (a b : ℤ) → a ≤ℤ b → (a <ℤ b) ⊎ (a ≡ b)
    level_or_less a b most = by_lt_z a b (λ less. inl less) (λ least. inr (omega (arith, ints, most, least)))

    goes_to : (x : Edge) (cell : Cell) → offer stage ahead x ≡ Some cell → cell.next ≡ x.to
    goes_to x cell e = on (stage.price x) (get_or ahead x.to None) e
      where
        on : (price : Option ℤ) (there : Option Cell) → offer_by x.to price there ≡ Some cell → cell.next ≡ x.to
        on None there e = absurd cc
        on (Some price) None e = absurd cc
        on (Some price) (Some it) e = ap (λ (c : Cell). c.next) (sym (cell_is (record { value = price +ℤ it.value; next = x.to }) cell e))

    -- an offer that is no better
    worse_offer : (comp : ℕ) (old new : Cell) → edge.from ≡ comp → offer stage ahead edge ≡ Some new → old.value ≤ℤ new.value → IsOffered Seen comp (Some old) → IsOffered More comp (Some old)
    worse_offer comp old new here offers most is = record {
      none = λ e. absurd cc;
      some = λ it e. let before : IsLeastOffer Seen comp it = is.some it e in record {
        edge = before.edge;
        seen = inl before.seen;
        from = before.from;
        offers = before.offers;
        least = λ other offered more from other_offers. elim more [
          | inl seen ↦ before.least other offered seen from other_offers
          | inr last ↦
              let same : new ≡ offered = cell_is new offered (sym offers ∙ sym (ap (offer stage ahead) last) ∙ other_offers) in
              let it_is : old ≡ it = cell_is old it e in
              let it_most : it.value ≤ℤ offered.value = subst (λ (x : Cell). x.value ≤ℤ offered.value) it_is (subst (λ (x : Cell). old.value ≤ℤ x.value) same most) in
              elim (level_or_less it.value offered.value it_most) [
                | inl less ↦ inl less
                | inr level ↦ inr (
                  level,
                  (
                      let to_it : it.next ≡ before.edge.to = goes_to before.edge it before.offers in
                      let to_edge : offered.next ≡ edge.to = ap (λ (c : Cell). c.next) (sym same) ∙ goes_to edge new offers in
                      let start : before.edge.from ≡ edge.from = before.from ∙ sym here in
                      elim (later before.edge before.seen) [
                        | inl lower ↦ absurd (omega (arith, lower, start))
                        | inr rises ↦ omega (arith, to_it, to_edge, rises.1)
                      ]),
                )
              ]
        ];
      };
    }

    taken_in : (comp : ℕ) (cell offers : Option Cell) → edge.from ≡ comp → offer stage ahead edge ≡ offers → IsOffered Seen comp cell → IsOffered More comp (lower_cell cell offers)
    taken_in comp None None here e is = nothing comp None e is
    taken_in comp (Some old) None here e is = nothing comp (Some old) e is
    taken_in comp None (Some new) here e is = first_offer comp new here e is
    taken_in comp (Some old) (Some new) here e is = on (lower_cases old new)
      where
        on : LowerCase old new → IsOffered More comp (lower_cell (Some old) (Some new))
        on (kept same most) = subst (IsOffered More comp) (sym same) (worse_offer comp old new here e most is)
        on (replaced same less) = subst (IsOffered More comp) (sym same) (better_offer comp old new here e less is)

    pub more : (row : List (Option Cell)) (comp : ℕ) → edge.from < length row → IsOffered Seen comp (get_or row comp None) → IsOffered More comp (get_or (offered stage ahead row edge) comp None)
    more row comp within is = elim (cases_eq edge.from comp) [
      | inl here ↦
          let same : get_or (offered stage ahead row edge) comp None ≡ lower_cell (get_or row comp None) (offer stage ahead edge) =
          subst (λ (x : ℕ). get_or (offered stage ahead row edge) x None ≡ lower_cell (get_or row x None) (offer stage ahead edge)) here
          (get_or-set_same row edge.from (lower_cell (get_or row edge.from None) (offer stage ahead edge)) None within) in
          subst (IsOffered More comp) (sym same) (taken_in comp (get_or row comp None) (offer stage ahead edge) here refl is)
      | inr differ ↦
          subst (IsOffered More comp) (sym (get_or-set_other row edge.from comp (lower_cell (get_or row edge.from None) (offer stage ahead edge)) None (λ e. differ (sym e))))
          (elsewhere comp (get_or row comp None) differ is)
    ]

  -- ---- all edges

  same_offered : (P Q : Edge → Type 0) (comp : ℕ) (cell : Option Cell) → ((edge : Edge) → P edge → Q edge) → ((edge : Edge) → Q edge → P edge) → IsOffered P comp cell → IsOffered Q comp cell
  same_offered P Q comp cell to from is = record {
    none = λ e edge seen. is.none e edge (from edge seen);
    some = λ it e. let least : IsLeastOffer P comp it = is.some it e in record {
      edge = least.edge;
      seen = to least.edge least.seen;
      from = least.from;
      offers = least.offers;
      least = λ other offered seen. least.least other offered (from other seen);
    };
  }

  in_rest : (edge : Edge) (edges : List Edge) (x : Edge) → Contains edges x → Contains (edge ∷ edges) x
  in_rest edge edges x (k, lt, at) = (suc k, omega (arith, lt), at)

  first_or_rest : (edge : Edge) (edges : List Edge) (x : Edge) (k : ℕ) → k < length (edge ∷ edges) → get_or (edge ∷ edges) k x ≡ x → (x ≡ edge) ⊎ Contains edges x
  first_or_rest edge edges x zero lt at = inl (sym at)
  first_or_rest edge edges x (suc k) lt at = inr (k, omega (arith, lt), at)

  go : (n : ℕ) (edges : List Edge) (Seen : Edge → Type 0) (row : List (Option Cell)) → length row ≡ n
      → ((comp : ℕ) → comp < n → IsOffered Seen comp (get_or row comp None))
      → ((seen : Edge) → Seen seen → (k : ℕ) (d : Edge) → k < length edges → IsBefore seen (get_or edges k d))
      → AreInOrder edges → ((edge : Edge) → Contains edges edge → edge.from < n)
      → (comp : ℕ) → comp < n → IsOffered (λ (edge : Edge). Seen edge ⊎ Contains edges edge) comp (get_or (fold (offered stage ahead) row edges) comp None)
  go n [] Seen row long is later in_order within comp below =
      same_offered Seen (λ (edge : Edge). Seen edge ⊎ Contains [] edge) comp (get_or row comp None) (λ edge seen. inl seen)
      (λ edge both. elim both [ inl seen ↦ seen | inr there ↦ absurd (omega (arith, there.1)) ]) (is comp below)
  go n (edge ∷ edges) Seen row long is later in_order within comp below =
      same_offered (λ (x : Edge). (Seen x ⊎ (x ≡ edge)) ⊎ Contains edges x) (λ (x : Edge). Seen x ⊎ Contains (edge ∷ edges) x) comp
      (get_or (fold (offered stage ahead) (offered stage ahead row edge) edges) comp None)
      (λ x both. elim both [
        | inl old ↦ elim old [ inl seen ↦ inl seen | inr same ↦ inr (zero, omega arith, sym same) ]
        | inr there ↦ inr (in_rest edge edges x there)
      ])
      (λ x both. elim both [
        | inl seen ↦ inl (inl seen)
        | inr there ↦ elim (first_or_rest edge edges x there.0 there.1 there.2) [ inl same ↦ inl (inr same) | inr rest ↦ inr rest ]
      ])
      (go n edges (λ (x : Edge). Seen x ⊎ (x ≡ edge)) (offered stage ahead row edge) (length-set row edge.from (lower_cell (get_or row edge.from None) (offer stage ahead edge)) ∙ long)
      (λ c lt. more Seen edge (λ seen was. later seen was 0 edge (omega arith)) row c (omega (arith, within edge (zero, omega arith, refl), long)) (is c lt))
      (λ seen was. elim was [
        | inl old ↦ λ k d lt. later seen old (suc k) d (omega (arith, lt))
        | inr same ↦ λ k d lt. subst (λ (x : Edge). IsBefore x (get_or edges k d)) (sym same) (in_order 0 (suc k) d (omega arith) (omega (arith, lt)))
      ])
      (λ i j d lt within. in_order (suc i) (suc j) d (omega (arith, lt)) (omega (arith, within)))
      (λ x there. within x (in_rest edge edges x there)) comp below)

  -- the row that is left has for each composition the first offer of least value
  pub row_offered : (n : ℕ) (edges : List Edge) → AreInOrder edges → ((edge : Edge) → Contains edges edge → edge.from < n)
      → (comp : ℕ) → comp < n → IsOffered (Contains edges) comp (get_or (fold (offered stage ahead) (replicate n None) edges) comp None)
  row_offered n edges in_order within comp below =
      same_offered (λ (edge : Edge). ⊥ ⊎ Contains edges edge) (Contains edges) comp (get_or (fold (offered stage ahead) (replicate n None) edges) comp None)
      (λ edge both. elim both [ inl never ↦ absurd never | inr there ↦ there ]) (λ edge there. inr there)
      (go n edges (λ (edge : Edge). ⊥) (replicate n None) (length-replicate n None)
      (λ c lt. record { none = λ e edge seen. absurd seen; some = λ it e. absurd (let none : None ≡ Some it = sym (get_or-replicate n c None None lt) ∙ e in cc) })
      (λ seen was. absurd was) in_order within comp below)
