-- The first path of least value through the stages of a chain begins where the first row has its first cell of least
-- value.
use Rattle.std.proofs.Common.{◌≡◌, ℕ, suc, ◌+◌, ◌<◌, ◌≤◌, ◌⊎◌, List, [], ◌∷◌, length, get_or, true, Option, Some, None}
use Rattle.std.proofs.Common.{refl, sym, ap, ◌∙◌, subst, arith, ℤ, ◌<ℤ◌, ◌≤ℤ◌, inl, inr}
use Rattle.std.specs.List.{All}
use Rattle.std.proofs.lemmas.Bool.{cases_lt}
use Rattle.std.proofs.lemmas.Int.{ints, by_lt_z}
use Rattle.compositions.specs.Catalogue.{is_lower}
use Rattle.price_bound.specs.declared.cells.Cell.{Cell}
use Rattle.price_bound.specs.Paths.{Stage, IsPath, IsNoLaterPath, IsFirstPath, IsOver, begin_of, entered, least_from}
use Rattle.price_bound.specs.Paths.{lower_cell, row_by, rows_of, path_from}
use Rattle.price_bound.proofs.Offers.{cell_is, kept, lower_cases, replaced}
use Rattle.price_bound.proofs.Rows.{IsCellFor, IsFirstFrom, length-row, lower_head, rows_first, path_begins}

-- ---- the first cell of least value

-- a cell tells the least value of a row up to a place, and the first composition that has it
record IsLeastUntil (row : List (Option Cell)) (until : ℕ) (best : Option Cell) : Type 0 where
  pub none : best ≡ None → (comp : ℕ) → comp < until → get_or row comp None ≡ None
  pub there : (it : Cell) → best ≡ Some it → (cell : Cell) × (get_or row it.next None ≡ Some cell) × (cell.value ≡ it.value) × (it.next < until)
  pub least : (it : Cell) → best ≡ Some it → (comp : ℕ) (cell : Cell) → comp < until → get_or row comp None ≡ Some cell → (it.value <ℤ cell.value) ⊎ ((it.value ≡ cell.value) × (it.next ≤ comp))

module _ (row : List (Option Cell)) (until : ℕ) where
  before_or_at : (comp : ℕ) → comp < suc until → (comp < until) ⊎ (comp ≡ until)
  before_or_at comp below = elim (cases_lt comp until) [ inl less ↦ inl less | inr most ↦ inr (omega (arith, below, most)) ]

  -- nothing at the place
  pass : (best : Option Cell) → get_or row until None ≡ None → IsLeastUntil row until best → IsLeastUntil row (suc until) best
  pass best nothing is = record {
    none = λ e comp below. elim (before_or_at comp below) [ inl less ↦ is.none e comp less | inr same ↦ ap (λ (k : ℕ). get_or row k None) same ∙ nothing ];
    there = λ it e. let found = is.there it e in (found.0, found.1, found.2, omega (arith, found.3));
    least = λ it e comp cell below at. elim (before_or_at comp below) [
      | inl less ↦ is.least it e comp cell less at
      | inr same ↦ absurd (let none : None ≡ Some cell = sym (ap (λ (k : ℕ). get_or row k None) same ∙ nothing) ∙ at in cc)
    ];
  }

  module _ (new : Cell) (at_new : get_or row until None ≡ Some new) where
    abbrev entry : Cell
    entry = record { value = new.value; next = until }

    same_new : (comp : ℕ) (cell : Cell) → comp ≡ until → get_or row comp None ≡ Some cell → new ≡ cell
    same_new comp cell same at = cell_is new cell (sym at_new ∙ ap (λ (k : ℕ). get_or row k None) (sym same) ∙ at)

    value_same : (a b : Cell) → a ≡ b → a.value ≡ b.value
    value_same a b e = ap (λ (c : Cell). c.value) e

    take_first : IsLeastUntil row until None → IsLeastUntil row (suc until) (Some entry)
    take_first is = record {
      none = λ e. absurd cc;
      there = λ it e. let same : entry ≡ it = cell_is entry it e in
          subst (λ (c : Cell). (cell : Cell) × (get_or row c.next None ≡ Some cell) × (cell.value ≡ c.value) × (c.next < suc until)) same (new, at_new, refl, omega arith);
      least = λ it e comp cell below at. let same : entry ≡ it = cell_is entry it e in elim (before_or_at comp below) [
        | inl less ↦ absurd (let none : None ≡ Some cell = sym (is.none refl comp less) ∙ at in cc)
        | inr here ↦ subst (λ (c : Cell). (c.value <ℤ cell.value) ⊎ ((c.value ≡ cell.value) × (c.next ≤ comp))) same
            (inr (value_same new cell (same_new comp cell here at), omega (arith, here)))
      ];
    }

    take_lower : (old : Cell) → new.value <ℤ old.value → IsLeastUntil row until (Some old) → IsLeastUntil row (suc until) (Some entry)
    take_lower old less is = record {
      none = λ e. absurd cc;
      there = λ it e. let same : entry ≡ it = cell_is entry it e in
          subst (λ (c : Cell). (cell : Cell) × (get_or row c.next None ≡ Some cell) × (cell.value ≡ c.value) × (c.next < suc until)) same (new, at_new, refl, omega arith);
      least = λ it e comp cell below at. let same : entry ≡ it = cell_is entry it e in
          subst (λ (c : Cell). (c.value <ℤ cell.value) ⊎ ((c.value ≡ cell.value) × (c.next ≤ comp))) same (elim (before_or_at comp below) [
            | inl early ↦ inl (elim (is.least old refl comp cell early at) [
              | inl more ↦ two new.value old.value cell.value less more
              | inr level ↦ two_level new.value old.value cell.value less level.0
            ])
            | inr here ↦ inr (value_same new cell (same_new comp cell here at), omega (arith, here))
          ]);
    }
      where
        two : (a b c : ℤ) → a <ℤ b → b <ℤ c → a <ℤ c
        two a b c p q = omega (arith, ints, p, q)

        two_level : (a b c : ℤ) → a <ℤ b → b ≡ c → a <ℤ c
        two_level a b c p q = omega (arith, ints, p, q)

    keep : (old : Cell) → old.value ≤ℤ new.value → IsLeastUntil row until (Some old) → IsLeastUntil row (suc until) (Some old)
    keep old most is = record {
      none = λ e. absurd cc;
      there = λ it e. let found = is.there it e in (found.0, found.1, found.2, omega (arith, found.3));
      least = λ it e comp cell below at. elim (before_or_at comp below) [
        | inl early ↦ is.least it e comp cell early at
        | inr here ↦
            let same : old ≡ it = cell_is old it e in
            let new_is : new ≡ cell = same_new comp cell here at in
            let found = is.there it e in
            level_or_less it.value cell.value it.next comp (subst (λ (c : Cell). it.value ≤ℤ c.value) new_is (subst (λ (c : Cell). c.value ≤ℤ new.value) same most)) (omega (arith, found.3, here))
      ];
    }
      where
        level_or_less : (a b : ℤ) (m k : ℕ) → a ≤ℤ b → m ≤ k → (a <ℤ b) ⊎ ((a ≡ b) × (m ≤ k))
        level_or_less a b m k p q = by_lt_z a b (λ less. inl less) (λ least. inr (both a b p least, q))
          where
            both : (a b : ℤ) → a ≤ℤ b → b ≤ℤ a → a ≡ b
            both a b p q = omega (arith, ints, p, q)

  next : (best cell : Option Cell) → get_or row until None ≡ cell → IsLeastUntil row until best → IsLeastUntil row (suc until) (lower_cell best (entered until cell))
  next None None at is = pass None at is
  next (Some old) None at is = pass (Some old) at is
  next None (Some new) at is = take_first new at is
  next (Some old) (Some new) at is = elim (lower_cases old (record { value = new.value; next = until })) [
    | kept same most ↦ subst (IsLeastUntil row (suc until)) (sym same) (keep new at old most is)
    | replaced same less ↦ subst (IsLeastUntil row (suc until)) (sym same) (take_lower new at old less is)
  ]

all_until : (row : List (Option Cell)) (at : ℕ) (best : Option Cell) (rest : List (Option Cell)) → ((k : ℕ) → get_or row (at + k) None ≡ get_or rest k None) → IsLeastUntil row at best
    → IsLeastUntil row (at + length rest) (least_from at best rest)
all_until row at best [] here is = let same : at ≡ at + 0 = omega arith in subst (λ (k : ℕ). IsLeastUntil row k best) same is
all_until row at best (cell ∷ rest) here is =
    let plain : at + 0 ≡ at = omega arith in
    let at_cell : get_or row at None ≡ cell = ap (λ (k : ℕ). get_or row k None) (sym plain) ∙ here 0 in
    let same : suc at + length rest ≡ at + suc (length rest) = omega arith in
    subst (λ (k : ℕ). IsLeastUntil row k (least_from (suc at) (lower_cell best (entered at cell)) rest)) same
    (all_until row (suc at) (lower_cell best (entered at cell)) rest
    (λ k. let moved : suc at + k ≡ at + suc k = omega arith in ap (λ (j : ℕ). get_or row j None) moved ∙ here (suc k))
    (next row at best cell at_cell is))

least_is : (row : List (Option Cell)) → IsLeastUntil row (length row) (least_from 0 None row)
least_is row =
    let same : 0 + length row ≡ length row = omega arith in
    subst (λ (k : ℕ). IsLeastUntil row k (least_from 0 None row)) same
    (all_until row 0 None row (λ k. let plain : 0 + k ≡ k = omega arith in ap (λ (j : ℕ). get_or row j None) plain) (record {
      none = λ e comp below. absurd (omega (arith, below));
      there = λ it e. absurd (let none : None ≡ Some it = e in cc);
      least = λ it e. absurd (let none : None ≡ Some it = e in cc);
    }))

-- ---- the first path of a chain

-- what the begin of rows tells: no path at all, or the first path of least value
pub record IsBeginFor (stages : List Stage) (rows : List (List (Option Cell))) (begin : Option Cell) : Type 0 where
  pub none : begin ≡ None → (path : List ℕ) (value : ℤ) → IsPath stages path value → ⊥
  pub some : (it : Cell) → begin ≡ Some it → IsFirstPath stages (path_from rows it.next) it.value

module _ (n : ℕ) (stage : Stage) (stages : List Stage) (over : All (IsOver n) (stage ∷ stages)) where
  abbrev rows : List (List (Option Cell))
  rows = rows_of n (stage ∷ stages)

  abbrev row : List (Option Cell)
  row = row_by n stage (rows_of n stages)

  cells : (comp : ℕ) → comp < n → IsCellFor (stage ∷ stages) rows comp (get_or row comp None)
  cells comp below = rows_first n stage stages over comp below

  -- a path begins with a composition of the row
  path_within : (stage : Stage) (stages : List Stage) → IsOver n stage → (comp : ℕ) (path : List ℕ) (value : ℤ) → IsPath (stage ∷ stages) (comp ∷ path) value → comp < n
  path_within stage [] is comp [] value path = is.priced_costs comp value path
  path_within stage [] is comp (next ∷ path) value never = absurd never
  path_within stage (after ∷ stages) is comp [] value never = absurd never
  path_within stage (after ∷ stages) is comp (next ∷ path) value (here, step, rest, here_is, is_step, is_rest, total) = is.priced_costs comp here here_is

  stage_over : IsOver n stage
  stage_over = over 0 stage (omega arith)

  least : IsLeastUntil row (length row) (least_from 0 None row)
  least = least_is row

  no_path : least_from 0 None row ≡ None → (path : List ℕ) (value : ℤ) → IsPath (stage ∷ stages) path value → ⊥
  no_path none [] value is = no_empty stages is
    where
      no_empty : (stages : List Stage) → IsPath (stage ∷ stages) [] value → ⊥
      no_empty [] is = is
      no_empty (after ∷ stages) is = is
  no_path none (comp ∷ path) value is =
      let below : comp < n = path_within stage stages stage_over comp path value is in
      let long : length row ≡ n = length-row n stage (rows_of n stages) in
      (cells comp below).none (least.none none comp (omega (arith, below, long))) path value is

  module _ (it : Cell) (begin : least_from 0 None row ≡ Some it) where
    found : (cell : Cell) × (get_or row it.next None ≡ Some cell) × (cell.value ≡ it.value) × (it.next < length row)
    found = least.there it begin

    below : it.next < n
    below = let long : length row ≡ n = length-row n stage (rows_of n stages) in omega (arith, found.3, long)

    from : IsFirstFrom (stage ∷ stages) it.next (path_from rows it.next) it.value
    from = subst (IsFirstFrom (stage ∷ stages) it.next (path_from rows it.next)) found.2 ((cells it.next below).some found.0 found.1)

    others : (path : List ℕ) (other : ℤ) → IsPath (stage ∷ stages) path other → IsNoLaterPath it.value (path_from rows it.next) other path
    others [] other is = absurd (no_empty stages is)
      where
        no_empty : (stages : List Stage) → IsPath (stage ∷ stages) [] other → ⊥
        no_empty [] is = is
        no_empty (after ∷ stages) is = is
    others (comp ∷ path) other is = on (get_or row comp None) refl
      where
        within : comp < n
        within = path_within stage stages stage_over comp path other is

        at_least : (a b : ℤ) (ms ns : List ℕ) → IsNoLaterPath a ms b ns → a ≤ℤ b
        at_least a b ms ns (inl same) = same.1
        at_least a b ms ns (inr (inl less)) = omega (arith, ints, less)
        at_least a b ms ns (inr (inr level)) = (let e : a ≡ b = level.0 in omega (arith, ints, e))

        less_most : (a b c : ℤ) → a <ℤ b → b ≤ℤ c → a <ℤ c
        less_most a b c p q = omega (arith, ints, p, q)

        level_most : (a b c : ℤ) → a ≡ b → b ≤ℤ c → (a <ℤ c) ⊎ (a ≡ c)
        level_most a b c p q = by_lt_z a c (λ less. inl less) (λ least. inr (omega (arith, ints, p, q, least)))

        on : (cell : Option Cell) → get_or row comp None ≡ cell → IsNoLaterPath it.value (path_from rows it.next) other (comp ∷ path)
        on None at = absurd ((cells comp within).none at path other is)
        on (Some cell) at =
            let theirs : IsFirstFrom (stage ∷ stages) comp (path_from rows comp) cell.value = (cells comp within).some cell at in
            let high : cell.value ≤ℤ other = at_least cell.value other (path_from rows comp) (comp ∷ path) (theirs.first path other is) in
            let long : length row ≡ n = length-row n stage (rows_of n stages) in
            let begins = path_begins row (rows_of n stages) it.next in
            elim (least.least it begin comp cell (omega (arith, within, long)) at) [
              | inl less ↦ inr (inl (less_most it.value cell.value other less high))
              | inr level ↦ elim (cases_lt it.next comp) [
                | inl early ↦ elim (level_most it.value cell.value other level.0 high) [
                  | inl less ↦ inr (inl less)
                  | inr same ↦ inr (inr (same, subst (λ (ms : List ℕ). is_lower ms (comp ∷ path) ≡ true) (sym begins.1) (lower_head it.next comp begins.0 path early)))
                ]
                | inr late ↦
                    let same : comp ≡ it.next = omega (arith, level.1, late) in
                    subst (λ (k : ℕ). IsNoLaterPath it.value (path_from rows it.next) other (k ∷ path)) (sym same)
                    (from.first path other (subst (λ (k : ℕ). IsPath (stage ∷ stages) (k ∷ path) other) same is))
              ]
            ]

  pub first_path : IsBeginFor (stage ∷ stages) rows (begin_of rows)
  first_path = record { none = no_path; some = λ it e. record { is = (from it e).is; first = others it e } }
