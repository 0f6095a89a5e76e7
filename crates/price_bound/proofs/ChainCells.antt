-- The rows of a chain while they are made, from its last trip to its first, and the path along them.
use Rattle.std.proofs.Common.{◌≡◌, ℕ, zero, suc, ◌+◌, ◌++◌, ◌*◌, ◌<◌, ◌≤◌, List, [], ◌∷◌, length, get_or, set}
use Rattle.std.proofs.Common.{replicate, map, take, drop, Option, Some, None, refl, sym, ap, ◌∙◌, subst, arith, ℤ, ◌+ℤ◌}
use Rattle.std.proofs.Common.{inl, inr, slice_get, length-set, length-drop, Bool, true, false, cond, Contains}
use Rattle.std.specs.Prelude.{fold, int_lt, option_map, IfSome}
use Rattle.std.proofs.Math.Seq.{drop-cons}
use Rattle.std.proofs.lemmas.Bool.{cases_eq, cases_lt}
use Rattle.std.proofs.lemmas.List.{drop_all, get_or-append-add, get_or-replicate, get_or_append_left, get_or_default}
use Rattle.std.proofs.lemmas.List.{set-append_left, get_or-set_same, get_or-set_other, get_or-take, get_or_past}
use Rattle.std.proofs.lemmas.List.{length-replicate}
use Rattle.transitions.specs.declared.edge.Edge.{Edge}
use Rattle.transitions.specs.Edges.{AreGraphs, IsEdge, IsKindEdge}
use Rattle.rules.specs.declared.records.LinkKind.{LinkKind}
use Rattle.rules.specs.declared.records.LinkKind.TheVariants.{Turn, Join, Split}
use Rattle.timetable.specs.Compositions.{compositions_of}
use Rattle.timetable.specs.Day.{Day}
use Rattle.price_bound.specs.declared.cells.Cell.{Cell}
use Rattle.price_bound.specs.declared.priced_costs.Amount.{Amount}
use Rattle.price_bound.specs.CellRows.{HaveRoom, MayRunOn, all_bare, bare, chain_rows, comps_of, edges_offered, lower_at, put_along}
use Rattle.price_bound.specs.CellRows.{row_on}
use Rattle.price_bound.specs.CellSizes.{AreSmallCells, IsSmall, most_priced_cost}
use Rattle.price_bound.specs.ChainStages.{Priced, edges_of, price_of, stage_of, stages_of}
use Rattle.price_bound.specs.Paths.{Stage, begin_of, last_row, least_from, lower_cell, next_of, offer_by, offered, row_before, row_by, rows_of}
use Rattle.price_bound.specs.Paths.{path_from, with_priced_cost, with_priced_costs}
use Rattle.price_bound.specs.Pricing.{IsListed}
use Rattle.price_bound.proofs.Adding.{small_more, small_total}
use Rattle.price_bound.proofs.Offers.{cell_is}
use Rattle.price_bound.proofs.Rows.{length-row}

-- ---- room

pub room_kept : (rows comps place : ℕ) (row : List (Option Cell)) (table : List (List (Option Cell))) → length row ≡ comps
    → HaveRoom rows comps table → HaveRoom rows comps (set table place row)
room_kept rows comps place row table long room = record {
  height = length-set table place row ∙ room.height;
  widths = λ r below. elim (cases_eq place r) [
    | inl same ↦ subst (λ (k : ℕ). length (get_or (set table place row) k []) ≡ comps) same
        (ap length (get_or-set_same table place row [] (omega (arith, below, same, room.height))) ∙ long)
    | inr differ ↦ ap length (get_or-set_other table place r row [] (λ e. differ (sym e))) ∙ room.widths r below
  ];
}

-- ---- rows of one cell for all compositions

pub const_row : {X Y : Type 0} (y : Y) (xs : List X) → map (λ _. y) xs ≡ replicate (length xs) y
const_row y [] = refl
const_row y (x ∷ xs) = ap (λ (ys : List _). y ∷ ys) (const_row y xs)

pub none_small : (bound n : ℕ) → AreSmallCells bound (replicate n None)
none_small bound n comp cell at = elim (cases_lt comp n) [
  | inl below ↦ let none : None ≡ Some cell = sym (get_or-replicate n comp None None below) ∙ at in absurd (cc)
  | inr past ↦
      let none : None ≡ Some cell = sym (get_or_past (replicate n None) comp None (omega (arith, past, length-replicate {A = Option Cell} n None))) ∙ at in
      absurd (cc)
]

-- ---- a cell more

pub some_small : (bound : ℕ) (o : Option Cell) (cell : Cell) → IfSome o (λ it. IsSmall bound it.value) → o ≡ Some cell → IsSmall bound cell.value
some_small bound None cell small at = absurd (cc)
some_small bound (Some it) cell small at = subst (λ (c : Cell). IsSmall bound c.value) (cell_is it cell at) small

pub lower_small : (bound : ℕ) (a b : Option Cell) → IfSome a (λ it. IsSmall bound it.value) → IfSome b (λ it. IsSmall bound it.value)
    → IfSome (lower_cell a b) (λ it. IsSmall bound it.value)
lower_small bound None b p q = q
lower_small bound (Some a) None p q = p
lower_small bound (Some a) (Some b) p q = by (int_lt b.value a.value)
  where
    by : (less : Bool) → IfSome (cond less (Some b) (Some a)) (λ it. IsSmall bound it.value)
    by true = q
    by false = p

-- ---- bounds that are higher

pub cells_more : (a b : ℕ) (row : List (Option Cell)) → a ≤ b → AreSmallCells a row → AreSmallCells b row
cells_more a b row le small comp cell at = small_more a b cell.value le (small comp cell at)

-- ---- a cell with a priced cost

pub with_priced_cost_small : (bound most : ℕ) (priced_cost : Option ℤ) (cell : Option Cell) → IfSome priced_cost (IsSmall most)
    → IfSome cell (λ it. IsSmall bound it.value) → IfSome (with_priced_cost priced_cost cell) (λ it. IsSmall (bound + most) it.value)
with_priced_cost_small bound most None cell few small = tt
with_priced_cost_small bound most (Some priced_cost) None few small = tt
with_priced_cost_small bound most (Some priced_cost) (Some it) few small =
    small_total most bound (bound + most) priced_cost it.value (priced_cost +ℤ it.value) (omega arith) refl few small

-- ---- edges that offer one after another

-- nothing is offered where there is no cell ahead
pub nothing_ahead : (to : ℕ) (price : Option ℤ) (ahead : Option Cell) → ahead ≡ None → None ≡ offer_by to price ahead
nothing_ahead to None ahead none = refl
nothing_ahead to (Some price) ahead none = sym (ap (offer_by to (Some price)) none)

pub fold_more : {A B : Type 0} (f : B → A → B) (z : B) (xs : List A) (i : ℕ) (d : A) → i < length xs
    → fold f z (take (suc i) xs) ≡ f (fold f z (take i xs)) (get_or xs i d)
fold_more f z [] i d below = absurd (omega (arith, below))
fold_more f z (x ∷ xs) zero d below = refl
fold_more f z (x ∷ xs) (suc i) d below = fold_more f (f z x) xs i d (omega (arith, below))

abbrev pub offered_at : Priced → Option ℕ → List (Option Cell) → List (Option Cell) → Edge → List (Option Cell)
offered_at priced link ahead row edge =
    lower_at edge.from (offer_by edge.to (price_of priced link edge) (get_or ahead edge.to None)) row

pub length-offered : (priced : Priced) (link : Option ℕ) (ahead row : List (Option Cell))
    → length (edges_offered priced link ahead row) ≡ length row
length-offered priced link ahead row = each (edges_of priced link) row
  where
    each : (edges : List Edge) (cells : List (Option Cell))
        → length (fold (offered_at priced link ahead) cells edges) ≡ length cells
    each [] cells = refl
    each (edge ∷ edges) cells = each edges (offered_at priced link ahead cells edge) ∙ length-set cells edge.from _

-- ---- how much a row differs from the row ahead

pub priced_cost_few : (ends : Bool) → most_priced_cost ends ≤ 21000000000000000
priced_cost_few true = omega arith
priced_cost_few false = omega arith

pub priced_cost_at : (most : ℕ) (o : Option Amount) (priced_cost : Option ℤ) → option_map (λ it. it.0) o ≡ priced_cost → IfSome o (λ it. IsSmall most it.0)
    → IfSome priced_cost (IsSmall most)
priced_cost_at most o priced_cost is small = subst (λ (w : Option ℤ). IfSome w (IsSmall most)) is (by o small)
  where
    by : (x : Option Amount) → IfSome x (λ it. IsSmall most it.0) → IfSome (option_map (λ it. it.0) x) (IsSmall most)
    by None few = tt
    by (Some it) few = few

-- ---- rows that keep the values of cells alone

pub get-bare : (row : List (Option Cell)) (k : ℕ) → get_or (all_bare row) k None ≡ bare (get_or row k None)
get-bare [] k = refl
get-bare (cell ∷ row) zero = refl
get-bare (cell ∷ row) (suc k) = get-bare row k

pub bare_small : (bound : ℕ) (o : Option Cell) → IfSome o (λ it. IsSmall bound it.value) → IfSome (bare o) (λ it. IsSmall bound it.value)
bare_small bound None few = tt
bare_small bound (Some cell) few = few

-- an edge offers the value of what is ahead, wherever that leads
offer_of_bare : (to : ℕ) (price : Option ℤ) (cell : Option Cell) → offer_by to price (bare cell) ≡ offer_by to price cell
offer_of_bare to None cell = refl
offer_of_bare to (Some price) None = refl
offer_of_bare to (Some price) (Some cell) = refl

pub row_of_bare : (n : ℕ) (stage : Stage) (ahead : List (Option Cell)) → row_before n stage (all_bare ahead) ≡ row_before n stage ahead
row_of_bare n stage ahead = ap (with_priced_costs stage 0) (each stage.edges (replicate n None))
  where
    each : (edges : List Edge) (row : List (Option Cell))
        → fold (offered stage (all_bare ahead)) row edges ≡ fold (offered stage ahead) row edges
    each [] row = refl
    each (edge ∷ edges) row =
        ap (λ (new : List (Option Cell)). fold (offered stage (all_bare ahead)) new edges)
        (ap (λ (cell : Option Cell). lower_at edge.from cell row)
        (ap (offer_by edge.to (stage.price edge)) (get-bare ahead edge.to)
        ∙ offer_of_bare edge.to (stage.price edge) (get_or ahead edge.to None)))
        ∙ each edges (offered stage ahead row edge)

least_of_bare : (comp : ℕ) (best : Option Cell) (row : List (Option Cell)) → least_from comp best (all_bare row) ≡ least_from comp best row
least_of_bare comp best [] = refl
least_of_bare comp best (None ∷ row) = least_of_bare (suc comp) (lower_cell best None) row
least_of_bare comp best (Some cell ∷ row) =
    least_of_bare (suc comp) (lower_cell best (Some (record { value = cell.value; next = comp }))) row

pub begin_of_bare : (rows : List (List (Option Cell))) → begin_of (map all_bare rows) ≡ begin_of rows
begin_of_bare [] = refl
begin_of_bare (row ∷ rows) = least_of_bare 0 None row

-- ---- the rows of a chain, so far as they are made

module _ (n : ℕ) (stage after : Stage) (stages : List Stage) where
  one_row : (place : ℕ) (table : List (List (Option Cell)))
      → take (suc (length stages)) (drop (suc place) table) ≡ map all_bare (rows_of n (after ∷ stages))
      → take (suc (suc (length stages))) (drop place (set table place (all_bare (row_before n stage (get_or table (suc place) [])))))
      ≡ map all_bare (rows_of n (stage ∷ after ∷ stages))
  one_row place [] done = absurd (cc)
  one_row zero (x ∷ []) done = absurd (cc)
  one_row zero (x ∷ y ∷ table) done =
      let tail : y ∷ take (length stages) table ≡ all_bare (row_by n after (rows_of n stages)) ∷ map all_bare (rows_of n stages) = done in
      let head : y ≡ all_bare (row_by n after (rows_of n stages)) = cc in
      ap (λ (rows : List (List (Option Cell))). all_bare (row_before n stage y) ∷ rows) tail
      ∙ ap (λ (row : List (Option Cell)). all_bare (row_before n stage row) ∷ map all_bare (rows_of n (after ∷ stages))) head
      ∙ ap (λ (row : List (Option Cell)). all_bare row ∷ map all_bare (rows_of n (after ∷ stages)))
      (row_of_bare n stage (row_by n after (rows_of n stages)))
  one_row (suc place) (x ∷ table) done = one_row place table done

-- the rows from a place on are those of the chain from there on, and the first of them is small
pub record AreRowsFrom (priced : Priced) (chain : List ℕ) (place : ℕ) (table : List (List (Option Cell))) : Type 0 where
  pub rows : take (length (drop place chain)) (drop place table)
      ≡ map all_bare (rows_of (length (compositions_of priced.day)) (stages_of priced (drop place chain)))
  pub small : AreSmallCells (length (drop place chain) * 21000000000000000) (get_or table place [])
  pub each : (k : ℕ) → place ≤ k → k < length chain → AreSmallCells 8500000000000000000 (get_or table k [])
  pub runs : MayRunOn priced.day (get_or chain place 0) (get_or table place [])

length-stages : (priced : Priced) (chain : List ℕ) → length (stages_of priced chain) ≡ length chain
length-stages priced [] = refl
length-stages priced (t ∷ ts) = ap suc (length-stages priced ts)

module _ (priced : Priced) (chain : List ℕ) (table : List (List (Option Cell))) where
  abbrev comps : ℕ
  comps = length (compositions_of priced.day)

  -- one row before the others
  more_rows : (t u : ℕ) (ts : List ℕ) (place : ℕ)
      → take (length (u ∷ ts)) (drop (suc place) table) ≡ map all_bare (rows_of comps (stages_of priced (u ∷ ts)))
      → take (length (t ∷ u ∷ ts)) (drop place (set table place (all_bare (row_before comps (stage_of priced t) (get_or table (suc place) [])))))
      ≡ map all_bare (rows_of comps (stages_of priced (t ∷ u ∷ ts)))
  more_rows t u ts place done =
      let long : length (stages_of priced ts) ≡ length ts = length-stages priced ts in
      subst (λ (k : ℕ). take (suc (suc k)) (drop place (set table place (all_bare (row_before comps (stage_of priced t) (get_or table (suc place) [])))))
      ≡ map all_bare (rows_of comps (stages_of priced (t ∷ u ∷ ts)))) long
      (one_row comps (stage_of priced t) (stage_of priced u) (stages_of priced ts) place table
      (subst (λ (k : ℕ). take (suc k) (drop (suc place) table) ≡ map all_bare (rows_of comps (stages_of priced (u ∷ ts)))) (sym long) done))

  pub rows_more : (place : ℕ) → suc place < length chain → AreRowsFrom priced chain (suc place) table
      → (new : List (List (Option Cell)))
      → new ≡ set table place (all_bare (row_before comps (stage_of priced (get_or chain place 0)) (get_or table (suc place) [])))
      → ((bound : ℕ) → AreSmallCells bound (get_or table (suc place) [])
      → AreSmallCells (bound + 21000000000000000) (get_or new place []))
      → length chain ≤ 400 → MayRunOn priced.day (get_or chain place 0) (get_or new place []) → AreRowsFrom priced chain place new
  rows_more place below done new is small few runs =
      let here : drop place chain ≡ get_or chain place 0 ∷ drop (suc place) chain = drop-cons chain place 0 (omega (arith, below)) in
      let next : drop (suc place) chain ≡ get_or chain (suc place) 0 ∷ drop (suc (suc place)) chain = drop-cons chain (suc place) 0 below in
      let both : drop place chain ≡ get_or chain place 0 ∷ get_or chain (suc place) 0 ∷ drop (suc (suc place)) chain =
      here ∙ ap (λ (ts : List ℕ). get_or chain place 0 ∷ ts) next in
      record {
        rows = subst (λ (ts : List ℕ). take (length ts) (drop place new) ≡ map all_bare (rows_of comps (stages_of priced ts))) (sym both)
            (subst (λ (rows : List (List (Option Cell))). take (length (get_or chain place 0 ∷ get_or chain (suc place) 0 ∷ drop (suc (suc place)) chain))
            (drop place rows)
            ≡ map all_bare (rows_of comps (stages_of priced (get_or chain place 0 ∷ get_or chain (suc place) 0 ∷ drop (suc (suc place)) chain)))) (sym is)
            (more_rows (get_or chain place 0) (get_or chain (suc place) 0) (drop (suc (suc place)) chain) place
            (subst (λ (ts : List ℕ). take (length ts) (drop (suc place) table) ≡ map all_bare (rows_of comps (stages_of priced ts))) next done.rows)));
        small = here_small;
        runs = runs;
        each = λ k from lt. elim (cases_eq k place) [
          | inl same ↦ subst (λ (i : ℕ). AreSmallCells 8500000000000000000 (get_or new i [])) (sym same)
              (cells_more (length (drop place chain) * 21000000000000000) 8500000000000000000 (get_or new place [])
              (omega (arith, length-drop place chain, few)) here_small)
          | inr differ ↦ subst (AreSmallCells 8500000000000000000)
              (sym (ap (λ (rows : List (List (Option Cell))). get_or rows k []) is ∙ get_or-set_other table place k _ [] differ))
              (done.each k (omega (arith, from, differ)) lt)
        ];
      }
    where
      size : (a b : ℕ) → b ≡ suc a → a * 21000000000000000 + 21000000000000000 ≡ b * 21000000000000000
      size a b e = omega (arith, e)

      here_small : AreSmallCells (length (drop place chain) * 21000000000000000) (get_or new place [])
      here_small = subst (λ (k : ℕ). AreSmallCells k (get_or new place []))
          (size (length (drop (suc place) chain)) (length (drop place chain)) (ap length (drop-cons chain place 0 (omega (arith, below)))))
          (small (length (drop (suc place) chain) * 21000000000000000) done.small)

  -- the row of the last trip
  one_last : (place : ℕ) (row : List (Option Cell)) → place < length table → take 1 (drop place (set table place row)) ≡ row ∷ []
  one_last place row below = by place table below
    where
      by : (k : ℕ) (rows : List (List (Option Cell))) → k < length rows → take 1 (drop k (set rows k row)) ≡ row ∷ []
      by k [] lt = absurd (omega (arith, lt))
      by zero (x ∷ rows) lt = refl
      by (suc k) (x ∷ rows) lt = by k rows (omega (arith, lt))

  pub rows_last : (place : ℕ) → suc place ≡ length chain → place < length table → (new : List (List (Option Cell)))
      → new ≡ set table place (all_bare (last_row comps (stage_of priced (get_or chain place 0))))
      → AreSmallCells 21000000000000000 (get_or new place []) → MayRunOn priced.day (get_or chain place 0) (get_or new place [])
      → AreRowsFrom priced chain place new
  rows_last place last below new is small runs =
      let here : drop place chain ≡ get_or chain place 0 ∷ drop (suc place) chain = drop-cons chain place 0 (omega (arith, last)) in
      let none : drop (suc place) chain ≡ [] = drop_all (suc place) chain (omega (arith, last)) in
      let both : drop place chain ≡ get_or chain place 0 ∷ [] = here ∙ ap (λ (ts : List ℕ). get_or chain place 0 ∷ ts) none in
      record {
        rows = subst (λ (ts : List ℕ). take (length ts) (drop place new) ≡ map all_bare (rows_of comps (stages_of priced ts))) (sym both)
            (ap (λ (rows : List (List (Option Cell))). take 1 (drop place rows)) is
            ∙ one_last place (all_bare (last_row comps (stage_of priced (get_or chain place 0)))) below);
        small = subst (λ (k : ℕ). AreSmallCells k (get_or new place [])) (size (length (drop place chain)) (ap length both)) small;
        runs = runs;
        each = λ k from lt.
            let same : k ≡ place = omega (arith, from, lt, last) in
            subst (λ (i : ℕ). AreSmallCells 8500000000000000000 (get_or new i [])) (sym same)
            (cells_more 21000000000000000 8500000000000000000 (get_or new place []) (omega arith) small);
      }
    where
      size : (a : ℕ) → a ≡ 1 → 21000000000000000 ≡ a * 21000000000000000
      size a e = omega (arith, e)

-- ---- the path

-- the rows of the last stages are the last rows
drop_rows : (n : ℕ) (stages : List Stage) (k : ℕ) → drop k (rows_of n stages) ≡ rows_of n (drop k stages)
drop_rows n stages zero = refl
drop_rows n [] (suc k) = refl
drop_rows n (stage ∷ stages) (suc k) = drop_rows n stages k

drop_stages : (priced : Priced) (chain : List ℕ) (k : ℕ) → drop k (stages_of priced chain) ≡ stages_of priced (drop k chain)
drop_stages priced chain zero = refl
drop_stages priced [] (suc k) = refl
drop_stages priced (t ∷ ts) (suc k) = drop_stages priced ts k

module _ (priced : Priced) (chain : List ℕ) where
  abbrev pub rows : List (List (Option Cell))
  rows = chain_rows priced chain

  rows_from : (place : ℕ) → drop place rows ≡ chain_rows priced (drop place chain)
  rows_from place = drop_rows (comps_of priced) (stages_of priced chain) place ∙ ap (rows_of (comps_of priced)) (drop_stages priced chain place)

  -- the row at a place, and those behind it
  pub rows_at : (place : ℕ) → place < length chain
      → drop place rows ≡ row_by (comps_of priced) (stage_of priced (get_or chain place 0)) (drop (suc place) rows) ∷ drop (suc place) rows
  rows_at place below =
      rows_from place
      ∙ ap (chain_rows priced) (drop-cons chain place 0 below)
      ∙ ap (λ (rest : List (List (Option Cell))). row_by (comps_of priced) (stage_of priced (get_or chain place 0)) rest ∷ rest) (sym (rows_from (suc place)))

  pub first_after : (place : ℕ) (d : List (Option Cell)) → suc place < length chain
      → (rest : List (List (Option Cell))) × (drop (suc place) rows ≡ get_or rows (suc place) [] ∷ rest)
  first_after place d below = (drop (suc (suc place)) rows, drop-cons rows (suc place) [] (omega (arith, below, long)))
    where
      all : (stages : List Stage) → length (rows_of (comps_of priced) stages) ≡ length stages
      all [] = refl
      all (stage ∷ stages) = ap suc (all stages)

      long : length rows ≡ length chain
      long = all (stages_of priced chain) ∙ length-stages priced chain

  -- where the table has the rows, the next composition is read off by the row ahead
  pub next_by_row : (table : List (List (Option Cell))) (place comp : ℕ) → suc place < length chain
      → take (length chain) table ≡ map all_bare rows
      → next_of (get_or (row_on priced (get_or chain place 0) (get_or table (suc place) [])) comp None)
      ≡ next_of (get_or (get_or rows place []) comp None)
  next_by_row table place comp below is =
      let t : ℕ = get_or chain place 0 in
      let there = first_after place [] below in
      let ahead : get_or table (suc place) [] ≡ all_bare (get_or rows (suc place) []) =
      sym (get_or-take (length chain) table (suc place) [] below)
      ∙ ap (λ (rs : List (List (Option Cell))). get_or rs (suc place) []) is
      ∙ get-all_bare rows (suc place) in
      let here : get_or rows place [] ≡ row_on priced t (get_or rows (suc place) []) =
      first_of_drop rows place (rows_at place (omega (arith, below)))
      ∙ ap (row_by (comps_of priced) (stage_of priced t)) there.1 in
      ap (λ (row : List (Option Cell)). next_of (get_or row comp None))
      (ap (row_on priced t) ahead ∙ row_of_bare (comps_of priced) (stage_of priced t) (get_or rows (suc place) []) ∙ sym here)
    where
      get-all_bare : (rs : List (List (Option Cell))) (k : ℕ) → get_or (map all_bare rs) k [] ≡ all_bare (get_or rs k [])
      get-all_bare [] k = refl
      get-all_bare (r ∷ rs) zero = refl
      get-all_bare (r ∷ rs) (suc k) = get-all_bare rs k

      first_of_drop : (rs : List (List (Option Cell))) (k : ℕ) {r : List (Option Cell)} {rest : List (List (Option Cell))}
          → drop k rs ≡ r ∷ rest → get_or rs k [] ≡ r
      first_of_drop [] zero is = absurd cc
      first_of_drop [] (suc k) is = absurd cc
      first_of_drop (x ∷ rs) zero is = cc
      first_of_drop (x ∷ rs) (suc k) is = first_of_drop rs k is

  -- one trip more has its composition
  pub one_step : (place comp : ℕ) (picks : List ℕ) → place < length chain
      → put_along (drop place chain) (path_from (drop place rows) comp) picks
      ≡ put_along (drop (suc place) chain) (path_from (drop (suc place) rows) (next_of (get_or (get_or rows place []) comp None)))
      (set picks (get_or chain place 0) comp)
  one_step place comp picks below =
      let trips : drop place chain ≡ get_or chain place 0 ∷ drop (suc place) chain = drop-cons chain place 0 below in
      let left : drop place rows ≡ get_or rows place [] ∷ drop (suc place) rows = drop-cons rows place [] (omega (arith, below, long)) in
      ap (λ (ts : List ℕ). put_along ts (path_from (drop place rows) comp) picks) trips
      ∙ ap (λ (rs : List (List (Option Cell))). put_along (get_or chain place 0 ∷ drop (suc place) chain) (path_from rs comp) picks) left
    where
      all : (stages : List Stage) → length (rows_of (comps_of priced) stages) ≡ length stages
      all [] = refl
      all (stage ∷ stages) = ap suc (all stages)

      long : length rows ≡ length chain
      long = all (stages_of priced chain) ∙ length-stages priced chain

  -- after the last trip any composition will do
  last_step : (place comp other : ℕ) (picks : List ℕ) → length chain ≤ suc place
      → put_along (drop (suc place) chain) (path_from (drop (suc place) rows) comp) picks
      ≡ put_along (drop (suc place) chain) (path_from (drop (suc place) rows) other) picks
  last_step place comp other picks last =
      ap (λ (ts : List ℕ). put_along ts (path_from (drop (suc place) rows) comp) picks) none
      ∙ sym (ap (λ (ts : List ℕ). put_along ts (path_from (drop (suc place) rows) other) picks) none)
    where
      none : drop (suc place) chain ≡ []
      none = drop_all (suc place) chain last

  pub path_more : (table : List (List (Option Cell))) (place comp new : ℕ) (picks : List ℕ) → place < length chain
      → take (length chain) table ≡ map all_bare rows
      → (suc place < length chain → new ≡ next_of (get_or (row_on priced (get_or chain place 0) (get_or table (suc place) [])) comp None))
      → put_along (drop (suc place) chain) (path_from (drop (suc place) rows) new) (set picks (get_or chain place 0) comp)
      ≡ put_along (drop place chain) (path_from (drop place rows) comp) picks
  path_more table place comp new picks below is next = elim (cases_lt (suc place) (length chain)) [
    | inl more ↦
        ap (λ (c : ℕ). put_along (drop (suc place) chain) (path_from (drop (suc place) rows) c) (set picks (get_or chain place 0) comp))
        (next more ∙ next_by_row table place comp more is)
        ∙ sym (one_step place comp picks below)
    | inr last ↦
        last_step place new (next_of (get_or (get_or rows place []) comp None)) (set picks (get_or chain place 0) comp) last
        ∙ sym (one_step place comp picks below)
  ]

-- ---- edges

part_listed : (day : Day) (kind : LinkKind) (r : Bool) (edge : Edge) → IsKindEdge day kind r edge → IsListed (length (compositions_of day)) edge
part_listed day (Turn a b uncouple couple exchange) r edge is = record {
  from = is.arriving.listed;
  to = is.departing.listed;
  part = subst (λ (o : Option ℕ). IfSome o (λ part. part < length (compositions_of day))) (sym is.no_part) tt;
}
part_listed day (Join a1 a2 b) r edge is = record {
  from = is.first.listed;
  to = is.departing.listed;
  part = subst (λ (o : Option ℕ). IfSome o (λ part. part < length (compositions_of day))) (sym is.is_part) is.second.listed;
}
part_listed day (Split a b1 b2) r edge is = record {
  from = is.arriving.listed;
  to = is.first.listed;
  part = subst (λ (o : Option ℕ). IfSome o (λ part. part < length (compositions_of day))) (sym is.is_part) is.second.listed;
}

-- the edges of a link are allowed by it
pub edge_at_allowed : (day : Day) (graphs : List (List Edge)) (l : ℕ) (edges : List Edge) (edge : Edge) → AreGraphs day graphs
    → slice_get graphs l ≡ Some edges → Contains edges edge → IsEdge day l edge
edge_at_allowed day graphs l edges edge are at there = ((are.each l edges at).exact edge).0 there

-- and their compositions are those of the day
pub edge_at_listed : (day : Day) (graphs : List (List Edge)) (l : ℕ) (edges : List Edge) (edge : Edge) → AreGraphs day graphs
    → slice_get graphs l ≡ Some edges → Contains edges edge → IsListed (length (compositions_of day)) edge
edge_at_listed day graphs l edges edge are at there =
    let is : IsEdge day l edge = edge_at_allowed day graphs l edges edge are at there in
    part_listed day is.link.kind is.link.reverse edge is.kind

-- ---- rows in two parts, the first of which has so many and one more

module _ (rows front back : List (List (Option Cell))) (place : ℕ) (parts : rows ≡ front ++ back) (long : length front ≡ place + 1)
    (below : place + 1 < length rows) where
  pub row_in_front : (d : List (Option Cell)) → get_or front place d ≡ get_or rows place []
  row_in_front d =
      sym (get_or_append_left front back d place (omega (arith, long)))
      ∙ ap (λ (list : List (List (Option Cell))). get_or list place d) (sym parts)
      ∙ get_or_default rows place d [] (omega (arith, below))

  pub row_in_back : (d : List (Option Cell)) → get_or back 0 d ≡ get_or rows (place + 1) []
  row_in_back d =
      let at : length front + 0 ≡ place + 1 = omega (arith, long) in
      sym (get_or-append-add front back 0 d)
      ∙ ap (λ (list : List (List (Option Cell))). get_or list (length front + 0) d) (sym parts)
      ∙ ap (λ (k : ℕ). get_or rows k d) at
      ∙ get_or_default rows (place + 1) d [] below

  pub row_put : (row : List (Option Cell)) → set front place row ++ back ≡ set rows place row
  row_put row =
      sym (set-append_left front back place row (omega (arith, long)))
      ∙ ap (λ (list : List (List (Option Cell))). set list place row) (sym parts)

pub length-row_before : (n : ℕ) (stage : Stage) (ahead : List (Option Cell)) → length (row_before n stage ahead) ≡ n
length-row_before n stage ahead = length-row n stage (ahead ∷ [])

pub length-last_row : (n : ℕ) (stage : Stage) → length (last_row n stage) ≡ n
length-last_row n stage = length-row n stage []
