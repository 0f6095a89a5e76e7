-- The edges of a link by the composition that they lead from: where those of one begin, what they offer to it, and rows
-- that are made of what each composition is offered.
use Rattle.std.proofs.Common.{◌≡◌, ◌≢◌, ℕ, zero, suc, ◌+◌, ◌-◌, ◌<◌, ◌≤◌, List, [], ◌∷◌, length, get_or, set, take, replicate}
use Rattle.std.proofs.Common.{Option, Some, None, ℤ, refl, sym, ap, ◌∙◌, subst, arith, inl, inr, slice_get, length-set, unwrap_or, ◌⊎◌, pos}
use Rattle.std.specs.Prelude.{fold, IfSome}
use Rattle.std.proofs.lemmas.Bool.{cases_eq, cases_lt}
use Rattle.std.proofs.lemmas.List.{ext_get_or, get_or_default, get_or-replicate, get_or-set_same, get_or-set_other}
use Rattle.std.proofs.lemmas.List.{get_or_past, length-map, length-replicate, take_all}
use Rattle.timetable.specs.Links.{outgoing}
use Rattle.transitions.specs.declared.edge.Edge.{Edge}
use Rattle.transitions.specs.Edges.{AreGraphs, AreInOrder, IsBefore}
use Rattle.price_bound.specs.declared.cells.Cell.{Cell}
use Rattle.price_bound.specs.CellRows.{all_bare, bare, comps_of, edges_offered, last_row_on, offered_from, row_on}
use Rattle.price_bound.specs.CellSizes.{AreSmallCells, IsSmall}
use Rattle.price_bound.specs.ChainStages.{Priced, edges_of, price_of, stage_of, priced_cost_of}
use Rattle.price_bound.specs.EdgeGroups.{IsAtGroup, IsBelow, IsGroupPlace, IsInGroup, IsNotBelow, IsOfferPlace}
use Rattle.price_bound.specs.Paths.{Stage, lower_cell, offer_by, with_priced_cost, with_priced_costs}
use Rattle.price_bound.proofs.Adding.{small_more}
use Rattle.price_bound.proofs.ChainCells.{fold_more, get-bare, length-offered, lower_small, nothing_ahead, offered_at, some_small, with_priced_cost_small}
use Rattle.price_bound.proofs.Rows.{get-with_priced_costs}

-- ---- where the edges from a composition begin

-- an edge that is before one that is below is below
below_more : (x y : Edge) (comp to : ℕ) → IsBefore x y → IsBelow y comp to → IsBelow x comp to
below_more x y comp to (inl lower) (inl under) = inl (omega (arith, lower, under))
below_more x y comp to (inl lower) (inr same) = inl (omega (arith, lower, same.0))
below_more x y comp to (inr level) (inl under) = inl (omega (arith, level.0, under))
below_more x y comp to (inr level) (inr same) = inr (level.0 ∙ same.0, omega (arith, level.1, same.1))

-- and one that is after one that is not below is not below
not_below_more : (x y : Edge) (comp to : ℕ) → IsBefore x y → IsNotBelow x comp to → IsNotBelow y comp to
not_below_more x y comp to (inl lower) (inl above) = inl (omega (arith, lower, above))
not_below_more x y comp to (inl lower) (inr same) = inl (omega (arith, lower, same.0))
not_below_more x y comp to (inr level) (inl above) = inl (omega (arith, level.0, above))
not_below_more x y comp to (inr level) (inr same) = inr (sym level.0 ∙ same.0, omega (arith, level.1, same.1))

-- where the edge at a place is below, so are those before it
pub all_below : (edges : List Edge) (comp to place : ℕ) (e : Edge) → AreInOrder edges → place < length edges
    → IsBelow (get_or edges place e) comp to → (k : ℕ) (d : Edge) → k < place + 1 → IsBelow (get_or edges k d) comp to
all_below edges comp to place e order inside low k d less =
    let same : get_or edges place d ≡ get_or edges place e = get_or_default edges place d e inside in
    let here : IsBelow (get_or edges place d) comp to = subst (λ (x : Edge). IsBelow x comp to) (sym same) low in
    elim (cases_lt k place) [
      | inl before ↦ below_more (get_or edges k d) (get_or edges place d) comp to (order k place d before inside) here
      | inr past ↦
          let at : place ≡ k = omega (arith, past, less) in
          subst (λ (n : ℕ). IsBelow (get_or edges n d) comp to) at here
    ]

-- and where it is not, neither are those after it
pub none_below : (edges : List Edge) (comp to place : ℕ) (e : Edge) → AreInOrder edges → place < length edges
    → IsNotBelow (get_or edges place e) comp to → (k : ℕ) (d : Edge) → place ≤ k → k < length edges → IsNotBelow (get_or edges k d) comp to
none_below edges comp to place e order inside high k d from within =
    let same : get_or edges place d ≡ get_or edges place e = get_or_default edges place d e inside in
    let here : IsNotBelow (get_or edges place d) comp to = subst (λ (x : Edge). IsNotBelow x comp to) (sym same) high in
    elim (cases_lt place k) [
      | inl beyond ↦ not_below_more (get_or edges place d) (get_or edges k d) comp to (order place k d beyond within) here
      | inr past ↦
          let at : place ≡ k = omega (arith, past, from) in
          subst (λ (n : ℕ). IsNotBelow (get_or edges n d) comp to) at here
    ]

pub place_at : (edges : List Edge) (comp to place : ℕ) → AreInOrder edges → IsAtGroup edges comp to place → IsGroupPlace edges comp to place
place_at edges comp to place order is = record {
  within = omega (arith, is.within);
  before = λ k d less. elim is.before [
    | inl first ↦ absurd (omega (arith, first, less))
    | inr low ↦ elim (cases_eq place 0) [
      | inl first ↦ absurd (omega (arith, first, less))
      | inr differ ↦ all_below edges comp to (place - 1) d order (omega (arith, is.within)) (low d) k d (omega (arith, less, differ))
    ]
  ];
  after = λ k d from within. none_below edges comp to place d order is.within (is.here d) k d from within;
}

-- below the first composition that has a cell nothing is offered
pub offer_place : (edges : List Edge) (ahead : List (Option Cell)) (comp to place : ℕ) → ((k : ℕ) → k < to → get_or ahead k None ≡ None)
    → IsGroupPlace edges comp to place → IsOfferPlace edges ahead comp place
offer_place edges ahead comp to place none is = record {
  within = is.within;
  before = λ k d less. elim (is.before k d less) [
    | inl lower ↦ inl lower
    | inr same ↦ inr (none (get_or edges k d).to same.1)
  ];
  after = λ k d from inside. elim (is.after k d from inside) [
    | inl above ↦ omega (arith, above)
    | inr same ↦ omega (arith, same.0)
  ];
}

-- ---- what the edges from one composition offer to it

some_edge : (edges : List Edge) → 0 < length edges → Edge
some_edge [] some = absurd (omega (arith, some))
some_edge (edge ∷ edges) some = edge

module _ (priced : Priced) (link : Option ℕ) (ahead : List (Option Cell)) (old : List (Option Cell)) (edges : List Edge) (comp : ℕ) where
  -- what it has after so many edges
  abbrev pub has_after : ℕ → Option Cell
  has_after i = get_or (fold (offered_at priced link ahead) old (take i edges)) comp None

  length-after : (xs : List Edge) (row : List (Option Cell)) → length (fold (offered_at priced link ahead) row xs) ≡ length row
  length-after [] row = refl
  length-after (x ∷ xs) row = length-after xs (offered_at priced link ahead row x) ∙ length-set row x.from _

  -- an edge from elsewhere changes nothing
  pub elsewhere : (i : ℕ) (edge : Edge) → i < length edges → (get_or edges i edge).from ≢ comp → has_after (suc i) ≡ has_after i
  elsewhere i edge below differ =
      ap (λ (row : List (Option Cell)). get_or row comp None) (fold_more (offered_at priced link ahead) old edges i edge below)
      ∙ get_or-set_other (fold (offered_at priced link ahead) old (take i edges)) (get_or edges i edge).from comp _ None (λ e. differ (sym e))

  -- an edge from it offers its cell
  pub one_offer : (i : ℕ) (edge : Edge) → i < length edges → edge ≡ get_or edges i edge → edge.from ≡ comp → comp < length old
      → has_after (suc i) ≡ lower_cell (has_after i) (offer_by edge.to (price_of priced link edge) (get_or ahead edge.to None))
  one_offer i edge below there here inside =
      ap (λ (row : List (Option Cell)). get_or row comp None) (fold_more (offered_at priced link ahead) old edges i edge below)
      ∙ sym (ap (λ (x : Edge). get_or (offered_at priced link ahead (fold (offered_at priced link ahead) old (take i edges)) x) comp None) there)
      ∙ subst (λ (k : ℕ). get_or (offered_at priced link ahead (fold (offered_at priced link ahead) old (take i edges)) edge) k None
      ≡ lower_cell (get_or (fold (offered_at priced link ahead) old (take i edges)) k None)
      (offer_by edge.to (price_of priced link edge) (get_or ahead edge.to None))) here
      (get_or-set_same (fold (offered_at priced link ahead) old (take i edges)) edge.from _ None
      (omega (arith, here, inside, length-after (take i edges) old)))

  -- and nothing where there is no cell ahead
  pub idle : (i : ℕ) (edge : Edge) → i < length edges → comp < length old
      → ((get_or edges i edge).from ≢ comp) ⊎ (get_or ahead (get_or edges i edge).to None ≡ None) → has_after (suc i) ≡ has_after i
  idle i edge below inside (inl differ) = elsewhere i edge below differ
  idle i edge below inside (inr none) = elim (cases_eq (get_or edges i edge).from comp) [
    | inl same ↦
        let here : get_or edges i edge ≡ get_or edges i (get_or edges i edge) = get_or_default edges i edge (get_or edges i edge) below in
        one_offer i (get_or edges i edge) below here same inside
        ∙ ap (lower_cell (has_after i)) (sym (nothing_ahead (get_or edges i edge).to (price_of priced link (get_or edges i edge))
        (get_or ahead (get_or edges i edge).to None) none))
        ∙ lower_none (has_after i)
    | inr differ ↦ elsewhere i edge below differ
  ]
    where
      lower_none : (cell : Option Cell) → lower_cell cell None ≡ cell
      lower_none None = refl
      lower_none (Some cell) = refl

  -- so it is with any number of such edges
  pub all_idle : (j i : ℕ) → i ≤ j → j ≤ length edges → comp < length old
      → ((k : ℕ) (d : Edge) → i ≤ k → k < j → ((get_or edges k d).from ≢ comp) ⊎ (get_or ahead (get_or edges k d).to None ≡ None))
      → has_after j ≡ has_after i
  all_idle zero i le most inside idle_each = let same : i ≡ zero = omega (arith, le) in sym (ap has_after same)
  all_idle (suc j) i le most inside idle_each = elim (cases_eq i (suc j)) [
    | inl same ↦ sym (ap has_after same)
    | inr apart ↦
        let edge : Edge = some_edge edges (omega (arith, most)) in
        idle j edge (omega (arith, most)) inside (idle_each j edge (omega (arith, le, apart)) (omega arith))
        ∙ all_idle j i (omega (arith, le, apart)) (omega (arith, most)) inside (λ k d from lt. idle_each k d from (omega (arith, lt)))
  ]

  -- before the edges from it nothing was offered to it; after them nothing is
  pub at_begin : (begin : ℕ) → comp < length old → IsOfferPlace edges ahead comp begin → has_after begin ≡ get_or old comp None
  at_begin begin inside is = all_idle begin 0 (omega arith) is.within inside (λ k d from lt. elim (is.before k d lt) [
    | inl lower ↦ inl (λ e. absurd (omega (arith, lower, e)))
    | inr none ↦ inr none
  ])

  pub at_end : (end place : ℕ) → comp < length old → AreInOrder edges → ((k : ℕ) → end ≤ k → get_or ahead k None ≡ None)
      → ((k : ℕ) (d : Edge) → place ≤ k → k < length edges → comp ≤ (get_or edges k d).from) → place ≤ length edges
      → (IsInGroup edges comp end place → ⊥) → get_or (fold (offered_at priced link ahead) old edges) comp None ≡ has_after place
  at_end end place inside order none least most out =
      sym (ap (λ (xs : List Edge). get_or (fold (offered_at priced link ahead) old xs) comp None) (take_all (length edges) edges (omega arith)))
      ∙ all_idle (length edges) place most (omega arith) inside apart
    where
      -- the edge at the place is above those that may offer
      above : (d : Edge) → place < length edges → IsNotBelow (get_or edges place d) comp end
      above d there = elim (cases_eq (get_or edges place d).from comp) [
        | inl same ↦ elim (cases_lt (get_or edges place d).to end) [
          | inl under ↦ absurd (out (record {
            within = there;
            here = λ x. ap (λ (y : Edge). y.from) (get_or_default edges place x d there) ∙ same;
            under = λ x. omega (arith, under, ap (λ (y : Edge). y.to) (get_or_default edges place x d there));
          }))
          | inr past ↦ inr (same, omega (arith, past))
        ]
        | inr differ ↦ let low : comp ≤ (get_or edges place d).from = least place d (omega arith) there in inl (omega (arith, low, differ))
      ]

      apart : (k : ℕ) (d : Edge) → place ≤ k → k < length edges → ((get_or edges k d).from ≢ comp) ⊎ (get_or ahead (get_or edges k d).to None ≡ None)
      apart k d le lt =
          let there : place < length edges = omega (arith, le, lt) in
          elim (none_below edges comp end place d order there (above d there) k d le lt) [
            | inl higher ↦ inl (λ e. absurd (omega (arith, higher, e)))
            | inr same ↦ inr (none (get_or edges k d).to same.1)
          ]

-- ---- the edges of a link

pub edges_are : (priced : Priced) (l : ℕ) (edges : List Edge) → slice_get priced.graphs l ≡ Some edges → edges_of priced (Some l) ≡ edges
edges_are priced l edges at = ap (λ (o : Option (List Edge)). unwrap_or o []) at

pub edges_in_order : (priced : Priced) (l : ℕ) (edges : List Edge) → AreGraphs priced.day priced.graphs → slice_get priced.graphs l ≡ Some edges → AreInOrder edges
edges_in_order priced l edges are at = (are.each l edges at).in_order

abbrev none_row : Priced → List (Option Cell)
none_row priced = replicate (comps_of priced) None

listed_in : (priced : Priced) (comp : ℕ) → comp < comps_of priced → comp < length (none_row priced)
listed_in priced comp below = omega (arith, below, length-replicate {A = Option Cell} (comps_of priced) None)

-- the cells so far are those of the edges so far from a composition
pub record IsLeastSoFar (priced : Priced) (l : ℕ) (edges : List Edge) (ahead : List (Option Cell)) (comp begin place : ℕ) (least : Option Cell) : Type 0 where
  pub from : begin ≤ place
  pub most : place ≤ length edges
  pub cell : least ≡ get_or (fold (offered_at priced (Some l) ahead) (none_row priced) (take place edges)) comp None
  pub small : (bound : ℕ) → AreSmallCells bound ahead → IfSome least (λ cell. IsSmall (bound + 13000000000000000) cell.value)

pub least_begins : (priced : Priced) (l : ℕ) (edges : List Edge) (ahead : List (Option Cell)) (comp begin : ℕ) → comp < comps_of priced
    → IsOfferPlace edges ahead comp begin → IsLeastSoFar priced l edges ahead comp begin begin None
least_begins priced l edges ahead comp begin below is = record {
  from = omega arith;
  most = is.within;
  cell = sym (at_begin priced (Some l) ahead (none_row priced) edges comp begin (listed_in priced comp below) is ∙ get_or-replicate (comps_of priced) comp None None below);
  small = λ bound small. tt;
}

-- one edge from it more
pub least_more : (priced : Priced) (l : ℕ) (edges : List Edge) (ahead : List (Option Cell)) (comp begin place : ℕ) (least : Option Cell)
    → comp < comps_of priced → IsLeastSoFar priced l edges ahead comp begin place least
    → place < length edges → ((d : Edge) → (get_or edges place d).from ≡ comp) → (edge : Edge) → edge ≡ get_or edges place edge → (offer new : Option Cell)
    → offer ≡ offer_by edge.to (price_of priced (Some l) edge) (get_or ahead edge.to None)
    → ((bound : ℕ) → AreSmallCells bound ahead → IfSome offer (λ cell. IsSmall (bound + 13000000000000000) cell.value))
    → new ≡ lower_cell least offer → IsLeastSoFar priced l edges ahead comp begin (suc place) new
least_more priced l edges ahead comp begin place least listed done below here edge there offer new offered small made = record {
  from = omega (arith, done.from);
  most = omega (arith, below);
  cell = made ∙ ap (λ (o : Option Cell). lower_cell o offer) done.cell
      ∙ ap (lower_cell (get_or (fold (offered_at priced (Some l) ahead) (none_row priced) (take place edges)) comp None)) offered
      ∙ sym (one_offer priced (Some l) ahead (none_row priced) edges comp place edge below there
      (ap (λ (x : Edge). x.from) there ∙ here edge) (omega (arith, listed, length-replicate {A = Option Cell} (comps_of priced) None)));
  small = λ bound few. subst (λ (o : Option Cell). IfSome o (λ cell. IsSmall (bound + 13000000000000000) cell.value)) (sym made)
      (lower_small (bound + 13000000000000000) least offer (done.small bound few) (small bound few));
}

-- ---- sizes

pub some_more : (a b : ℕ) (o : Option Cell) → a ≤ b → IfSome o (λ cell. IsSmall a cell.value) → IfSome o (λ cell. IsSmall b cell.value)
some_more a b None le small = tt
some_more a b (Some cell) le small = small_more a b cell.value le small

-- a priced cost on a trip from which a link leads on, after the price of an edge
pub priced_cost_step : (bound : ℕ) (priced_cost : ℤ) (cell new : Option Cell) → new ≡ with_priced_cost (Some priced_cost) cell → IsSmall 8000000000000000 priced_cost
    → IfSome cell (λ it. IsSmall (bound + 13000000000000000) it.value) → IfSome new (λ it. IsSmall (bound + 21000000000000000) it.value)
priced_cost_step bound priced_cost cell new is few small = subst (λ (o : Option Cell). IfSome o (λ it. IsSmall (bound + 21000000000000000) it.value)) (sym is)
    (some_more (bound + 13000000000000000 + 8000000000000000) (bound + 21000000000000000) (with_priced_cost (Some priced_cost) cell) (omega arith)
    (with_priced_cost_small (bound + 13000000000000000) 8000000000000000 (Some priced_cost) cell few small))

pub least_ends : (priced : Priced) (l : ℕ) (edges : List Edge) (ahead : List (Option Cell)) (comp begin end place : ℕ) (least : Option Cell)
    → AreGraphs priced.day priced.graphs → slice_get priced.graphs l ≡ Some edges → comp < comps_of priced
    → ((k : ℕ) → end ≤ k → get_or ahead k None ≡ None)
    → IsOfferPlace edges ahead comp begin → IsLeastSoFar priced l edges ahead comp begin place least → (IsInGroup edges comp end place → ⊥)
    → least ≡ offered_from priced (Some l) ahead comp
least_ends priced l edges ahead comp begin end place least are at below none is done out =
    done.cell
    ∙ sym (at_end priced (Some l) ahead (none_row priced) edges comp end place (listed_in priced comp below) (edges_in_order priced l edges are at)
    none (λ k d from inside. is.after k d (omega (arith, from, done.from)) inside) done.most out)
    ∙ sym (ap (λ (xs : List Edge). get_or (fold (offered_at priced (Some l) ahead) (none_row priced) xs) comp None) (edges_are priced l edges at))

-- ---- a row that is made cell by cell

-- the first cells of a row are these, but for where they lead, and each is small in some sense
pub record IsFilled (n : ℕ) (cell : ℕ → Option Cell) (IsFew : Option Cell → Type 0) (comp : ℕ) (row : List (Option Cell)) : Type 0 where
  pub long : length row ≡ n
  pub cells : (k : ℕ) → k < comp → get_or row k None ≡ bare (cell k)
  pub few : (k : ℕ) → k < comp → IsFew (get_or row k None)

module _ (n : ℕ) (cell : ℕ → Option Cell) (IsFew : Option Cell → Type 0) where
  pub filled_none : (row : List (Option Cell)) → length row ≡ n → IsFilled n cell IsFew 0 row
  filled_none row long = record {
    long = long;
    cells = λ k lt. absurd (omega (arith, lt));
    few = λ k lt. absurd (omega (arith, lt));
  }

  pub filled_more : (comp : ℕ) (row new : List (Option Cell)) (here : Option Cell) → IsFilled n cell IsFew comp row → comp < n
      → new ≡ set row comp (bare here) → here ≡ cell comp → IsFew (bare here) → IsFilled n cell IsFew (suc comp) new
  filled_more comp row new here done below is same_cell few = subst (IsFilled n cell IsFew (suc comp)) (sym is) (record {
    long = length-set row comp (bare here) ∙ done.long;
    cells = λ k lt. elim (cases_eq k comp) [
      | inl same ↦ subst (λ (i : ℕ). get_or (set row comp (bare here)) i None ≡ bare (cell i)) (sym same) (put ∙ ap bare same_cell)
      | inr differ ↦ get_or-set_other row comp k (bare here) None differ ∙ done.cells k (omega (arith, lt, differ))
    ];
    few = λ k lt. elim (cases_eq k comp) [
      | inl same ↦ subst IsFew (sym (ap (λ (i : ℕ). get_or (set row comp (bare here)) i None) same ∙ put)) few
      | inr differ ↦ subst IsFew (sym (get_or-set_other row comp k (bare here) None differ)) (done.few k (omega (arith, lt, differ)))
    ];
  })
    where
      put : get_or (set row comp (bare here)) comp None ≡ bare here
      put = get_or-set_same row comp (bare here) None (omega (arith, below, done.long))

  pub filled_all : (comp : ℕ) (row whole : List (Option Cell)) → IsFilled n cell IsFew comp row → n ≤ comp → length whole ≡ n
      → ((k : ℕ) → k < n → get_or whole k None ≡ cell k) → row ≡ all_bare whole
  filled_all comp row whole done past long each = ext_get_or None row (all_bare whole) (done.long ∙ sym (length-map whole bare ∙ long))
      (λ k lt. done.cells k (omega (arith, lt, past, done.long)) ∙ ap bare (sym (each k (omega (arith, lt, done.long)))) ∙ sym (get-bare whole k))

  pub few_at : (comp : ℕ) (row : List (Option Cell)) (bound k : ℕ) (it : Cell) → IsFilled n cell IsFew comp row → n ≤ comp
      → ((o : Option Cell) → IsFew o → IfSome o (λ found. IsSmall bound found.value)) → get_or row k None ≡ Some it → IsSmall bound it.value
  few_at comp row bound k it done past few at = elim (cases_lt k n) [
    | inl below ↦ some_small bound (get_or row k None) it (few (get_or row k None) (done.few k (omega (arith, below, past)))) at
    | inr out ↦ let none : None ≡ Some it = sym (get_or_past row k None (omega (arith, out, done.long))) ∙ at in absurd cc
  ]

length-with_priced_costs : (stage : Stage) (comp : ℕ) (row : List (Option Cell)) → length (with_priced_costs stage comp row) ≡ length row
length-with_priced_costs stage comp [] = refl
length-with_priced_costs stage comp (cell ∷ row) = ap suc (length-with_priced_costs stage (suc comp) row)

-- ---- the cells of the rows of a day

abbrev pub cell_on : Priced → ℕ → List (Option Cell) → ℕ → Option Cell
cell_on priced t ahead comp = with_priced_cost (priced_cost_of priced t comp) (offered_from priced (outgoing priced.day t) ahead comp)

abbrev pub last_cell_on : Priced → ℕ → ℕ → Option Cell
last_cell_on priced t comp = with_priced_cost (priced_cost_of priced t comp) (Some (record { value = pos 0; next = 0 }))

-- a cell is a step from those ahead
abbrev pub IsStepFrom : List (Option Cell) → Option Cell → Type 0
IsStepFrom ahead o = (bound : ℕ) → AreSmallCells bound ahead → IfSome o (λ cell. IsSmall (bound + 21000000000000000) cell.value)

abbrev pub IsOneStep : Option Cell → Type 0
IsOneStep o = IfSome o (λ cell. IsSmall 21000000000000000 cell.value)

module _ (priced : Priced) (t : ℕ) (ahead : List (Option Cell)) where
  abbrev all_offered : List (Option Cell)
  all_offered = edges_offered priced (outgoing priced.day t) ahead (none_row priced)

  length_offered : length all_offered ≡ comps_of priced
  length_offered = length-offered priced (outgoing priced.day t) ahead (none_row priced) ∙ length-replicate {A = Option Cell} (comps_of priced) None

  pub row_long : length (row_on priced t ahead) ≡ comps_of priced
  row_long = length-with_priced_costs (stage_of priced t) 0 all_offered ∙ length_offered

  pub row_cell : (k : ℕ) → k < comps_of priced → get_or (row_on priced t ahead) k None ≡ cell_on priced t ahead k
  row_cell k below =
      let same : 0 + k ≡ k = omega arith in
      get-with_priced_costs (stage_of priced t) 0 all_offered k (omega (arith, below, length_offered))
      ∙ ap (λ (i : ℕ). with_priced_cost (priced_cost_of priced t i) (get_or all_offered k None)) same

module _ (priced : Priced) (t : ℕ) where
  pub last_long : length (last_row_on priced t) ≡ comps_of priced
  last_long = length-with_priced_costs (stage_of priced t) 0 _ ∙ length-replicate {A = Option Cell} (comps_of priced) _

  pub last_cell : (k : ℕ) → k < comps_of priced → get_or (last_row_on priced t) k None ≡ last_cell_on priced t k
  last_cell k below =
      let same : 0 + k ≡ k = omega arith in
      get-with_priced_costs (stage_of priced t) 0 (replicate (comps_of priced) (Some (record { value = pos 0; next = 0 }))) k
      (omega (arith, below, length-replicate {A = Option Cell} (comps_of priced) (Some (record { value = pos 0; next = 0 }))))
      ∙ ap (λ (i : ℕ). with_priced_cost (priced_cost_of priced t i) (get_or (replicate (comps_of priced) (Some (record { value = pos 0; next = 0 }))) k None)) same
      ∙ ap (with_priced_cost (priced_cost_of priced t k)) (get_or-replicate (comps_of priced) k (Some (record { value = pos 0; next = 0 })) None below)

-- ---- a trip from which no link leads on

pub priced_costs_of_none : (stage : Stage) (at n : ℕ) → with_priced_costs stage at (replicate n None) ≡ replicate n None
priced_costs_of_none stage at zero = refl
priced_costs_of_none stage at (suc n) =
    ap (λ (cell : Option Cell). cell ∷ with_priced_costs stage (suc at) (replicate n None)) (none (stage.priced_cost at))
    ∙ ap (λ (row : List (Option Cell)). None ∷ row) (priced_costs_of_none stage (suc at) n)
  where
    none : (priced_cost : Option _) → with_priced_cost priced_cost None ≡ None
    none None = refl
    none (Some priced_cost) = refl

pub row_of_none : (priced : Priced) (t : ℕ) (ahead : List (Option Cell)) → outgoing priced.day t ≡ None
    → row_on priced t ahead ≡ replicate (comps_of priced) None
row_of_none priced t ahead none =
    ap (λ (link : Option ℕ). with_priced_costs (stage_of priced t) 0 (edges_offered priced link ahead (none_row priced))) none
    ∙ priced_costs_of_none (stage_of priced t) 0 (comps_of priced)

pub bare_none : (n : ℕ) → all_bare (replicate n None) ≡ replicate n None
bare_none zero = refl
bare_none (suc n) = ap (λ (row : List (Option Cell)). None ∷ row) (bare_none n)

-- no composition follows where the number is past the last
pub past_next : (priced : Priced) (t : ℕ) (ahead : List (Option Cell)) (comp : ℕ) → comps_of priced ≤ comp
    → get_or (row_on priced t ahead) comp None ≡ None
past_next priced t ahead comp past = get_or_past (row_on priced t ahead) comp None (omega (arith, past, row_long priced t ahead))

-- no composition follows where no link leads on, or the number is past the last
pub none_next : (priced : Priced) (t : ℕ) (ahead : List (Option Cell)) (comp : ℕ) → outgoing priced.day t ≡ None
    → get_or (row_on priced t ahead) comp None ≡ None
none_next priced t ahead comp none = elim (cases_lt comp (comps_of priced)) [
  | inl below ↦ ap (λ (row : List (Option Cell)). get_or row comp None) (row_of_none priced t ahead none)
      ∙ get_or-replicate (comps_of priced) comp None None below
  | inr past ↦ past_next priced t ahead comp past
]
