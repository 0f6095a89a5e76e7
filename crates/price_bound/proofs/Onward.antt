-- Where a cell leads does not rest on what its composition costs, and a row that is made tells which cells there are.
use Rattle.std.proofs.Common.{◌≡◌, ℕ, zero, suc, ◌<◌, List, [], ◌∷◌, length, drop, get_or, map, take, Option, Some, None, refl, sym, ap, ◌∙◌}
use Rattle.std.proofs.Common.{◌+◌, arith, subst, ℤ, false, true}
use Rattle.std.specs.Prelude.{is_none}
use Rattle.std.proofs.lemmas.List.{get_or-take}
use Rattle.timetable.specs.Links.{outgoing}
use Rattle.price_bound.specs.declared.cells.Cell.{Cell}
use Rattle.price_bound.specs.CellRows.{all_bare, bare, chain_rows, comps_of, offered_from, row_on}
use Rattle.price_bound.specs.ChainStages.{Priced, priced_cost_of, stage_of}
use Rattle.price_bound.specs.Paths.{next_of, row_by, with_priced_cost}
use Rattle.price_bound.proofs.ChainCells.{first_after, get-bare, row_of_bare, rows_at}
use Rattle.price_bound.proofs.EdgeGroups.{row_cell}

-- a cell that is there with a priced cost leads where it leads without
next_kept : (priced_cost : Option ℤ) (cell : Option Cell) → is_none (with_priced_cost priced_cost cell) ≡ false
    → next_of cell ≡ next_of (with_priced_cost priced_cost cell)
next_kept None cell there = absurd cc
next_kept (Some priced_cost) None there = absurd cc
next_kept (Some priced_cost) (Some cell) there = refl

pub next_offered : (priced : Priced) (t l : ℕ) (ahead : List (Option Cell)) (comp : ℕ) → outgoing priced.day t ≡ Some l → comp < comps_of priced
    → is_none (get_or (row_on priced t ahead) comp None) ≡ false
    → next_of (offered_from priced (Some l) ahead comp) ≡ next_of (get_or (row_on priced t ahead) comp None)
next_offered priced t l ahead comp leads below there =
    let read : get_or (row_on priced t ahead) comp None ≡ with_priced_cost (priced_cost_of priced t comp) (offered_from priced (Some l) ahead comp) =
    row_cell priced t ahead comp below
    ∙ ap (λ (link : Option ℕ). with_priced_cost (priced_cost_of priced t comp) (offered_from priced link ahead comp)) leads in
    next_kept (priced_cost_of priced t comp) (offered_from priced (Some l) ahead comp) (ap is_none (sym read) ∙ there) ∙ ap next_of (sym read)

-- ---- the cells of a table that has the rows of a chain

get-all_bare : (rows : List (List (Option Cell))) (k : ℕ) → get_or (map all_bare rows) k [] ≡ all_bare (get_or rows k [])
get-all_bare [] k = refl
get-all_bare (row ∷ rows) zero = refl
get-all_bare (row ∷ rows) (suc k) = get-all_bare rows k

first_of_drop : (rows : List (List (Option Cell))) (k : ℕ) {row : List (Option Cell)} {rest : List (List (Option Cell))}
    → drop k rows ≡ row ∷ rest → get_or rows k [] ≡ row
first_of_drop [] zero is = absurd cc
first_of_drop [] (suc k) is = absurd cc
first_of_drop (row ∷ rows) zero is = cc
first_of_drop (row ∷ rows) (suc k) is = first_of_drop rows k is

module _ (priced : Priced) (chain : List ℕ) (table : List (List (Option Cell))) (are : take (length chain) table ≡ map all_bare (chain_rows priced chain)) where
  row_in : (place : ℕ) → place < length chain → get_or table place [] ≡ all_bare (get_or (chain_rows priced chain) place [])
  row_in place below =
      sym (get_or-take (length chain) table place [] below)
      ∙ ap (λ (rows : List (List (Option Cell))). get_or rows place []) are
      ∙ get-all_bare (chain_rows priced chain) place

  own_row : (place : ℕ) → suc place < length chain
      → get_or table place [] ≡ all_bare (row_on priced (get_or chain place 0) (get_or table (suc place) []))
  own_row place below =
      let t : ℕ = get_or chain place 0 in
      let there = first_after priced chain place [] below in
      let here : get_or (chain_rows priced chain) place [] ≡ row_on priced t (get_or (chain_rows priced chain) (suc place) []) =
      first_of_drop (chain_rows priced chain) place (rows_at priced chain place (omega (arith, below)))
      ∙ ap (row_by (comps_of priced) (stage_of priced t)) there.1 in
      row_in place (omega (arith, below))
      ∙ ap all_bare (here ∙ sym (ap (row_on priced t) (row_in (suc place) below)
      ∙ row_of_bare (comps_of priced) (stage_of priced t) (get_or (chain_rows priced chain) (suc place) [])))

  -- the cell of a composition in the table tells whether there is one in the row
  pub none_in_row : (place comp : ℕ) → place + 1 < length chain
      → is_none (get_or (get_or table place []) comp None)
      ≡ is_none (get_or (row_on priced (get_or chain place 0) (get_or table (place + 1) [])) comp None)
  none_in_row place comp below =
      let next : suc place ≡ place + 1 = omega arith in
      subst (λ (k : ℕ). is_none (get_or (get_or table place []) comp None) ≡ is_none (get_or (row_on priced (get_or chain place 0) (get_or table k [])) comp None))
      next (ap (λ (row : List (Option Cell)). is_none (get_or row comp None)) (own_row place (omega (arith, below)))
      ∙ ap is_none (get-bare (row_on priced (get_or chain place 0) (get_or table (suc place) [])) comp)
      ∙ same (get_or (row_on priced (get_or chain place 0) (get_or table (suc place) [])) comp None))
    where
      same : (cell : Option Cell) → is_none (bare cell) ≡ is_none cell
      same None = refl
      same (Some cell) = refl

-- nothing leads to the first composition
pub leads_nowhere : (cell : Option Cell) → is_none cell ≡ true → 0 ≡ next_of cell
leads_nowhere None none = refl
leads_nowhere (Some cell) none = absurd cc
