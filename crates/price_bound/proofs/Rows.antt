-- The rows of a chain's stages hold first paths: a cell has the value of the first path of least value from its
-- composition on, and the path goes from cell to cell.
use Rattle.std.proofs.Common.{◌≡◌, ℕ, zero, suc, ◌+◌, ◌<◌, ◌≤◌, ◌⊎◌, List, [], ◌∷◌, length, get_or, replicate, true}
use Rattle.std.proofs.Common.{Option, Some, None, refl, sym, ap, ◌∙◌, subst, arith, ℤ, pos, ◌+ℤ◌, ◌<ℤ◌, ◌≤ℤ◌, inl, inr}
use Rattle.std.proofs.Common.{Contains, length-set}
use Rattle.std.specs.Prelude.{fold}
use Rattle.std.specs.List.{All}
use Rattle.std.proofs.lemmas.Bool.{and_from, cases_eq, eq-eqb, lt-ltb, or_left, or_right}
use Rattle.std.proofs.lemmas.Int.{ints, by_lt_z}
use Rattle.std.proofs.lemmas.List.{length-replicate, get_or-replicate}
use Rattle.std.proofs.lemmas.List.Elements.{All-head, All-tail}
use Rattle.compositions.specs.Catalogue.{is_lower}
use Rattle.transitions.specs.declared.edge.Edge.{Edge}
use Rattle.price_bound.specs.declared.cells.Cell.{Cell}
use Rattle.price_bound.specs.Paths.{Stage, IsStepAt, IsPath, IsNoLaterPath, IsOver, last_row, next_of, offer, offer_by}
use Rattle.price_bound.specs.Paths.{offered, row_before, row_by, rows_of, path_from, with_priced_cost, with_priced_costs}
use Rattle.price_bound.proofs.Offers.{IsLeastOffer, IsOffered, cell_is, row_offered}

-- ---- lists in order

pub lower_head : (m n : ℕ) (ms ns : List ℕ) → m < n → is_lower (m ∷ ms) (n ∷ ns) ≡ true
lower_head m n ms ns h = or_left _ _ (lt-ltb m n h)

pub lower_tail : (m : ℕ) (ms ns : List ℕ) → is_lower ms ns ≡ true → is_lower (m ∷ ms) (m ∷ ns) ≡ true
lower_tail m ms ns h = or_right _ _ (and_from _ _ (eq-eqb m m refl) h)

-- ---- a path made longer by a step at its front

-- two paths that go on from one composition: the one by the least offer is no later
module _ (comp here_comp there_comp : ℕ) (here c d step rest value other : ℤ) (value_is : value ≡ here +ℤ c) (other_is : other ≡ here +ℤ (step +ℤ rest))
    (mine theirs path : List ℕ) (same_path : here_comp ≡ there_comp → theirs ≡ mine) (tail : List ℕ) (begins : mine ≡ here_comp ∷ tail) where
  -- the list of the one comes first where it goes to a lower composition
  lower_next : here_comp < there_comp → is_lower (comp ∷ mine) (comp ∷ there_comp ∷ path) ≡ true
  lower_next less = lower_tail comp mine (there_comp ∷ path) (subst (λ (ms : List ℕ). is_lower ms (there_comp ∷ path) ≡ true) (sym begins) (lower_head here_comp there_comp tail path less))

  by_value : value <ℤ other → IsNoLaterPath value (comp ∷ mine) other (comp ∷ there_comp ∷ path)
  by_value less = inr (inl less)

  by_list : value ≤ℤ other → here_comp < there_comp → IsNoLaterPath value (comp ∷ mine) other (comp ∷ there_comp ∷ path)
  by_list most less = by_lt_z value other by_value (λ least. inr (inr (level value other most least, lower_next less)))
    where
      level : (a b : ℤ) → a ≤ℤ b → b ≤ℤ a → a ≡ b
      level a b p q = omega (arith, ints, p, q)

  split : here_comp ≤ there_comp → (here_comp ≡ there_comp) ⊎ (here_comp < there_comp)
  split most = elim (cases_eq here_comp there_comp) [ inl same ↦ inl same | inr differ ↦ inr (omega (arith, most, differ)) ]

  at_least : IsNoLaterPath d theirs rest (there_comp ∷ path) → d ≤ℤ rest
  at_least (inl same) = same.1
  at_least (inr (inl less)) = lower d rest less
    where
      lower : (a b : ℤ) → a <ℤ b → a ≤ℤ b
      lower a b p = omega (arith, ints, p)
  at_least (inr (inr level)) = equal d rest level.0
    where
      equal : (a b : ℤ) → a ≡ b → a ≤ℤ b
      equal a b p = omega (arith, ints, p)

  less_by : (h c s d r v o : ℤ) → v ≡ h +ℤ c → o ≡ h +ℤ (s +ℤ r) → c <ℤ (s +ℤ d) → d ≤ℤ r → v <ℤ o
  less_by h c s d r v o e f p q = omega (arith, ints, e, f, p, q)

  most_by : (h c s d r v o : ℤ) → v ≡ h +ℤ c → o ≡ h +ℤ (s +ℤ r) → c ≡ s +ℤ d → d ≤ℤ r → v ≤ℤ o
  most_by h c s d r v o e f p q = omega (arith, ints, e, f, p, q)

  less_rest : (h c s d r v o : ℤ) → v ≡ h +ℤ c → o ≡ h +ℤ (s +ℤ r) → c ≡ s +ℤ d → d <ℤ r → v <ℤ o
  less_rest h c s d r v o e f p q = omega (arith, ints, e, f, p, q)

  level_rest : (h c s d r v o : ℤ) → v ≡ h +ℤ c → o ≡ h +ℤ (s +ℤ r) → c ≡ s +ℤ d → d ≡ r → v ≡ o
  level_rest h c s d r v o e f p q = omega (arith, ints, e, f, p, q)

  level_step : c ≡ step +ℤ d → here_comp ≤ there_comp → IsNoLaterPath d theirs rest (there_comp ∷ path) → IsNoLaterPath value (comp ∷ mine) other (comp ∷ there_comp ∷ path)
  level_step level most (inl same) =
      let high : value ≤ℤ other = most_by here c step d rest value other value_is other_is level same.1 in
      elim (split most) [
        | inl one ↦ inl (ap (λ (ms : List ℕ). comp ∷ ms) (same.0 ∙ same_path one), high)
        | inr less ↦ by_list high less
      ]
  level_step level most (inr (inl less)) = by_value (less_rest here c step d rest value other value_is other_is level less)
  level_step level most (inr (inr tie)) =
      let equal : value ≡ other = level_rest here c step d rest value other value_is other_is level tie.0 in
      elim (split most) [
        | inl one ↦ inr (inr (equal, lower_tail comp mine (there_comp ∷ path) (subst (λ (ms : List ℕ). is_lower ms (there_comp ∷ path) ≡ true) (same_path one) tie.1)))
        | inr less ↦ inr (inr (equal, lower_next less))
      ]

  pub longer : (c <ℤ (step +ℤ d)) ⊎ ((c ≡ step +ℤ d) × (here_comp ≤ there_comp)) → IsNoLaterPath d theirs rest (there_comp ∷ path)
      → IsNoLaterPath value (comp ∷ mine) other (comp ∷ there_comp ∷ path)
  longer (inl less) ahead = by_value (less_by here c step d rest value other value_is other_is less (at_least ahead))
  longer (inr level) ahead = level_step level.0 level.1 ahead

-- ---- rows

length-with_priced_costs : (stage : Stage) (comp : ℕ) (row : List (Option Cell)) → length (with_priced_costs stage comp row) ≡ length row
length-with_priced_costs stage comp [] = refl
length-with_priced_costs stage comp (cell ∷ row) = ap suc (length-with_priced_costs stage (suc comp) row)

pub get-with_priced_costs : (stage : Stage) (at : ℕ) (row : List (Option Cell)) (comp : ℕ) → comp < length row
    → get_or (with_priced_costs stage at row) comp None ≡ with_priced_cost (stage.priced_cost (at + comp)) (get_or row comp None)
get-with_priced_costs stage at [] comp below = absurd (omega (arith, below))
get-with_priced_costs stage at (cell ∷ row) zero below = let same : at ≡ at + 0 = omega arith in ap (λ (k : ℕ). with_priced_cost (stage.priced_cost k) cell) same
get-with_priced_costs stage at (cell ∷ row) (suc comp) below =
    let same : suc at + comp ≡ at + suc comp = omega arith in
    get-with_priced_costs stage (suc at) row comp (omega (arith, below)) ∙ ap (λ (k : ℕ). with_priced_cost (stage.priced_cost k) (get_or row comp None)) same

length-fold : (stage : Stage) (ahead row : List (Option Cell)) (edges : List Edge) → length (fold (offered stage ahead) row edges) ≡ length row
length-fold stage ahead row [] = refl
length-fold stage ahead row (edge ∷ edges) =
    length-fold stage ahead (offered stage ahead row edge) edges ∙ length-set row edge.from _

pub length-row : (n : ℕ) (stage : Stage) (rows : List (List (Option Cell))) → length (row_by n stage rows) ≡ n
length-row n stage [] = length-with_priced_costs stage 0 (replicate n (Some (record { value = pos 0; next = 0 }))) ∙ length-replicate n (Some (record { value = pos 0; next = 0 }))
length-row n stage (ahead ∷ rows) =
    length-with_priced_costs stage 0 (fold (offered stage ahead) (replicate n None) stage.edges) ∙ length-fold stage ahead (replicate n None) stage.edges ∙ length-replicate n None

pub path_begins : (row : List (Option Cell)) (rows : List (List (Option Cell))) (comp : ℕ) → (tail : List ℕ) × (path_from (row ∷ rows) comp ≡ comp ∷ tail)
path_begins row rows comp = (path_from rows (next_of (get_or row comp None)), refl)

-- ---- first paths from a composition on

pub record IsFirstFrom (stages : List Stage) (comp : ℕ) (path : List ℕ) (value : ℤ) : Type 0 where
  pub is : IsPath stages path value
  pub first : (others : List ℕ) (other : ℤ) → IsPath stages (comp ∷ others) other → IsNoLaterPath value path other (comp ∷ others)

-- what a cell of the first row says of the paths from its composition on
pub record IsCellFor (stages : List Stage) (rows : List (List (Option Cell))) (comp : ℕ) (cell : Option Cell) : Type 0 where
  pub none : cell ≡ None → (others : List ℕ) (other : ℤ) → IsPath stages (comp ∷ others) other → ⊥
  pub some : (it : Cell) → cell ≡ Some it → IsFirstFrom stages comp (path_from rows comp) it.value

value_is : (a b : ℤ) → Some a ≡ Some b → a ≡ b
value_is a b e = cc

at_most : (a b : ℤ) → a ≡ b → a ≤ℤ b
at_most a b e = omega (arith, ints, e)

-- ---- the last stage

module _ (stage : Stage) (row : List (Option Cell)) where
  last_is : (comp : ℕ) (priced_cost : Option ℤ) (cell : Option Cell) → stage.priced_cost comp ≡ priced_cost → cell ≡ with_priced_cost priced_cost (Some (record { value = pos 0; next = 0 }))
      → IsCellFor (stage ∷ []) (row ∷ []) comp cell
  last_is comp None cell priced_cost made = record {
    none = λ e others. no_path others;
    some = λ it e. absurd (let none : None ≡ Some it = sym made ∙ e in cc);
  }
    where
      no_path : (others : List ℕ) (other : ℤ) → IsPath (stage ∷ []) (comp ∷ others) other → ⊥
      no_path [] other is = absurd (let none : None ≡ Some other = sym priced_cost ∙ is in cc)
      no_path (next ∷ others) other is = is
  last_is comp (Some value) cell priced_cost made = record {
    none = λ e. absurd (let none : None ≡ Some (record { value = value +ℤ pos 0; next = 0 }) = sym e ∙ made in cc);
    some = λ it e.
        let same : it.value ≡ value +ℤ pos 0 = ap (λ (c : Cell). c.value) (cell_is it (record { value = value +ℤ pos 0; next = 0 }) (sym e ∙ made)) in
        let value_same : value ≡ it.value = plain value it.value same in
        record { is = priced_cost ∙ ap (λ (v : ℤ). Some v) value_same; first = only it.value value_same };
  }
    where
      plain : (a b : ℤ) → b ≡ a +ℤ pos 0 → a ≡ b
      plain a b e = omega (arith, ints, e)

      only : (least : ℤ) → value ≡ least → (others : List ℕ) (other : ℤ) → IsPath (stage ∷ []) (comp ∷ others) other → IsNoLaterPath least (comp ∷ []) other (comp ∷ others)
      only least same [] other is = inl (refl, at_most least other (sym same ∙ value_is value other (sym priced_cost ∙ is)))
      only least same (next ∷ others) other is = absurd is

-- ---- a stage before others

module _ (n : ℕ) (stage after : Stage) (stages : List Stage) (over : IsOver n stage) (rows : List (List (Option Cell))) (ahead row : List (Option Cell))
    (is_ahead : (comp : ℕ) → comp < n → IsCellFor (after ∷ stages) (ahead ∷ rows) comp (get_or ahead comp None)) where
  abbrev offers_to : ℕ → Option Cell
  offers_to comp = get_or (fold (offered stage ahead) (replicate n None) stage.edges) comp None

  offers_is : (comp : ℕ) → comp < n → IsOffered stage ahead (Contains stage.edges) comp (offers_to comp)
  offers_is comp below = row_offered stage ahead n stage.edges over.in_order (λ edge there. (over.edges edge there).0) comp below

  abbrev all : List Stage
  all = stage ∷ after ∷ stages

  -- what a step offers, where there is something ahead
  step_offers : (comp next : ℕ) (step : ℤ) (cell : Cell) (is : IsStepAt stage comp next step) → get_or ahead next None ≡ Some cell
      → offer stage ahead is.edge ≡ Some (record { value = step +ℤ cell.value; next = next })
  step_offers comp next step cell is at =
      ap (λ (to : ℕ). offer_by to (stage.price is.edge) (get_or ahead to None)) is.goal
      ∙ ap (λ (price : Option ℤ). offer_by next price (get_or ahead next None)) is.priced
      ∙ ap (offer_by next (Some step)) at

  next_below : (comp next : ℕ) (step : ℤ) → IsStepAt stage comp next step → next < n
  next_below comp next step is = subst (λ (k : ℕ). k < n) is.goal (over.edges is.edge is.there).1

  -- no path where nothing is offered
  none_offered : (comp : ℕ) → comp < n → offers_to comp ≡ None → (others : List ℕ) (other : ℤ) → IsPath all (comp ∷ others) other → ⊥
  none_offered comp below none [] other is = is
  none_offered comp below none (next ∷ others) other (here, step, rest, priced_cost, is_step, is_rest, total) =
      on (get_or ahead next None) refl
    where
      apart : (cell : Cell) → None ≡ Some cell → ⊥
      apart cell e = absurd cc

      on : (cell : Option Cell) → get_or ahead next None ≡ cell → ⊥
      on None at = (is_ahead next (next_below comp next step is_step)).none at others rest is_rest
      on (Some cell) at =
          let nothing : offer stage ahead is_step.edge ≡ None = (offers_is comp below).none none is_step.edge is_step.there is_step.origin in
          apart (record { value = step +ℤ cell.value; next = next }) (sym nothing ∙ step_offers comp next step cell is_step at)

  -- the parts of an offer
  record IsMade (edge : Edge) (cell : Cell) : Type 0 where
    pub price : ℤ
    pub there : Cell
    pub priced : stage.price edge ≡ Some price
    pub ahead_at : get_or ahead edge.to None ≡ Some there
    pub value : cell.value ≡ price +ℤ there.value
    pub next : cell.next ≡ edge.to

  made_of : (edge : Edge) (cell : Cell) → offer stage ahead edge ≡ Some cell → IsMade edge cell
  made_of edge cell e = on (stage.price edge) (get_or ahead edge.to None) refl refl e
    where
      on : (price : Option ℤ) (there : Option Cell) → stage.price edge ≡ price → get_or ahead edge.to None ≡ there → offer_by edge.to price there ≡ Some cell → IsMade edge cell
      on None there p q e = absurd cc
      on (Some price) None p q e = absurd cc
      on (Some price) (Some there) p q e =
          let same : record { value = price +ℤ there.value; next = edge.to } ≡ cell = cell_is (record { value = price +ℤ there.value; next = edge.to }) cell e in
          record { price = price; there = there; priced = p; ahead_at = q; value = ap (λ (c : Cell). c.value) (sym same); next = ap (λ (c : Cell). c.next) (sym same) }

  module _ (comp : ℕ) (below : comp < n) (priced_cost : ℤ) (priced_cost_is : stage.priced_cost comp ≡ Some priced_cost) (offer_is : Cell) (found : offers_to comp ≡ Some offer_is)
      (mine : get_or row comp None ≡ Some (record { value = priced_cost +ℤ offer_is.value; next = offer_is.next })) where
    least : IsLeastOffer stage ahead (Contains stage.edges) comp offer_is
    least = (offers_is comp below).some offer_is found

    made : IsMade least.edge offer_is
    made = made_of least.edge offer_is least.offers

    there_first : IsFirstFrom (after ∷ stages) least.edge.to (path_from (ahead ∷ rows) least.edge.to) made.there.value
    there_first = (is_ahead least.edge.to (over.edges least.edge least.seen).1).some made.there made.ahead_at

    -- the rest of the path is that of the least offer's composition
    goes_on : next_of (get_or row comp None) ≡ least.edge.to
    goes_on = ap next_of mine ∙ made.next

    rest_path : path_from (ahead ∷ rows) (next_of (get_or row comp None)) ≡ path_from (ahead ∷ rows) least.edge.to
    rest_path = ap (path_from (ahead ∷ rows)) goes_on

    is_path : (path : List ℕ) (tail : List ℕ) → path ≡ path_from (ahead ∷ rows) least.edge.to → path ≡ least.edge.to ∷ tail → IsPath all (comp ∷ path) (priced_cost +ℤ offer_is.value)
    is_path path tail same begin =
        subst (λ (ms : List ℕ). IsPath all (comp ∷ ms) (priced_cost +ℤ offer_is.value)) (sym begin) (
          priced_cost,
          made.price,
          made.there.value,
          priced_cost_is,
          record { edge = least.edge; there = least.seen; origin = least.from; goal = refl; priced = made.priced },
          subst (λ (ms : List ℕ). IsPath (after ∷ stages) ms made.there.value) (sym same ∙ begin) there_first.is,
          ap (λ (v : ℤ). priced_cost +ℤ v) made.value,
        )

    first : (others : List ℕ) (other : ℤ) → IsPath all (comp ∷ others) other
        → IsNoLaterPath (priced_cost +ℤ offer_is.value) (comp ∷ path_from (ahead ∷ rows) least.edge.to) other (comp ∷ others)
    first [] other is = absurd is
    first (next ∷ others) other (here, step, rest, here_is, is_step, is_rest, total) =
        on (get_or ahead next None) refl
      where
        same_priced_cost : here ≡ priced_cost
        same_priced_cost = value_is here priced_cost (sym here_is ∙ priced_cost_is)

        on : (cell : Option Cell) → get_or ahead next None ≡ cell → IsNoLaterPath (priced_cost +ℤ offer_is.value) (comp ∷ path_from (ahead ∷ rows) least.edge.to) other (comp ∷ next ∷ others)
        on None at = absurd ((is_ahead next (next_below comp next step is_step)).none at others rest is_rest)
        on (Some cell) at =
            let begins = path_begins ahead rows least.edge.to in
            let to_next : offer_is.next ≡ least.edge.to = made.next in
            longer comp least.edge.to next priced_cost offer_is.value cell.value step rest (priced_cost +ℤ offer_is.value) other refl
            (total ∙ ap (λ (v : ℤ). v +ℤ (step +ℤ rest)) same_priced_cost)
            (path_from (ahead ∷ rows) least.edge.to) (path_from (ahead ∷ rows) next) others
            (λ e. ap (path_from (ahead ∷ rows)) (sym e)) begins.0 begins.1
            (elim (least.least is_step.edge (record { value = step +ℤ cell.value; next = next }) is_step.there is_step.origin (step_offers comp next step cell is_step at)) [
              | inl less ↦ inl less
              | inr level ↦ inr (level.0, subst (λ (k : ℕ). k ≤ next) to_next level.1)
            ])
            (((is_ahead next (next_below comp next step is_step)).some cell at).first others rest is_rest)

    pub before_is : IsFirstFrom all comp (path_from (row ∷ ahead ∷ rows) comp) (priced_cost +ℤ offer_is.value)
    before_is =
        let begins = path_begins ahead rows least.edge.to in record {
          is = is_path (path_from (ahead ∷ rows) (next_of (get_or row comp None))) begins.0 rest_path (rest_path ∙ begins.1);
          first = λ others other is.
              subst (λ (ms : List ℕ). IsNoLaterPath (priced_cost +ℤ offer_is.value) (comp ∷ ms) other (comp ∷ others)) (sym rest_path) (first others other is);
        }

  no_priced_cost : (comp : ℕ) → stage.priced_cost comp ≡ None → (others : List ℕ) (other : ℤ) → IsPath all (comp ∷ others) other → ⊥
  no_priced_cost comp none [] other is = is
  no_priced_cost comp none (next ∷ others) other (here, step, rest, here_is, is_step, is_rest, total) = absurd (let some : None ≡ Some here = sym none ∙ here_is in cc)

  cell_before : (comp : ℕ) → comp < n → (priced_cost : Option ℤ) (offers : Option Cell) → stage.priced_cost comp ≡ priced_cost → offers_to comp ≡ offers
      → get_or row comp None ≡ with_priced_cost priced_cost offers → IsCellFor all (row ∷ ahead ∷ rows) comp (get_or row comp None)
  cell_before comp below None offers priced_cost_is found mine = record {
    none = λ e. no_priced_cost comp priced_cost_is;
    some = λ it e. absurd (let none : None ≡ Some it = sym mine ∙ e in cc);
  }
  cell_before comp below (Some priced_cost) None priced_cost_is found mine = record {
    none = λ e. none_offered comp below found;
    some = λ it e. absurd (let none : None ≡ Some it = sym mine ∙ e in cc);
  }
  cell_before comp below (Some priced_cost) (Some cell) priced_cost_is found mine = record {
    none = λ e. absurd (let none : None ≡ Some (record { value = priced_cost +ℤ cell.value; next = cell.next }) = sym e ∙ mine in cc);
    some = λ it e.
        let same : record { value = priced_cost +ℤ cell.value; next = cell.next } ≡ it = cell_is (record { value = priced_cost +ℤ cell.value; next = cell.next }) it (sym mine ∙ e) in
        subst (λ (c : Cell). IsFirstFrom all comp (path_from (row ∷ ahead ∷ rows) comp) c.value) same (before_is comp below priced_cost priced_cost_is cell found mine);
  }

-- ---- all stages

-- the first row of the stages of a chain
pub rows_first : (n : ℕ) (stage : Stage) (stages : List Stage) → All (IsOver n) (stage ∷ stages) → (comp : ℕ) → comp < n
    → IsCellFor (stage ∷ stages) (rows_of n (stage ∷ stages)) comp (get_or (row_by n stage (rows_of n stages)) comp None)
rows_first n stage [] over comp below =
    let row : List (Option Cell) = last_row n stage in
    let start : Option Cell = Some (record { value = pos 0; next = 0 }) in
    let long : length (replicate n start) ≡ n = length-replicate n start in
    let same : 0 + comp ≡ comp = omega arith in
    last_is stage row comp (stage.priced_cost comp) (get_or row comp None) refl
    (get-with_priced_costs stage 0 (replicate n start) comp (omega (arith, long, below))
    ∙ ap (λ (k : ℕ). with_priced_cost (stage.priced_cost k) (get_or (replicate n start) comp None)) same
    ∙ ap (with_priced_cost (stage.priced_cost comp)) (get_or-replicate n comp start None below))
rows_first n stage (after ∷ stages) over comp below =
    let rows : List (List (Option Cell)) = rows_of n stages in
    let ahead : List (Option Cell) = row_by n after rows in
    let folded : List (Option Cell) = fold (offered stage ahead) (replicate n None) stage.edges in
    let long : length folded ≡ n = length-fold stage ahead (replicate n None) stage.edges ∙ length-replicate n None in
    let same : 0 + comp ≡ comp = omega arith in
    cell_before n stage after stages (All-head (IsOver n) stage (after ∷ stages) over) rows ahead (row_before n stage ahead)
    (λ k lt. rows_first n after stages (All-tail (IsOver n) stage (after ∷ stages) over) k lt)
    comp below (stage.priced_cost comp) (get_or folded comp None) refl refl
    (get-with_priced_costs stage 0 folded comp (omega (arith, long, below)) ∙ ap (λ (k : ℕ). with_priced_cost (stage.priced_cost k) (get_or folded comp None)) same)
