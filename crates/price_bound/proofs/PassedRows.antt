-- The row of a trip by the values that passes find.
use Rattle.std.proofs.Common.{◌≡◌, ℕ, ◌+◌, ◌<◌, ◌≤◌, List, length, get_or, map, Bool, true, false, Option, Some}
use Rattle.std.proofs.Common.{None, refl, sym, ap, ◌∙◌, subst, arith, ℤ, pos, ◌≤ℤ◌, ◌<ℤ◌, inl, inr, int_lt}
use Rattle.std.specs.Prelude.{IfSome, if◌then◌else◌}
use Rattle.std.proofs.lemmas.Int.{ints}
use Rattle.std.proofs.lemmas.List.{get_or-map, length-map}
use Rattle.timetable.specs.Links.{outgoing}
use Rattle.transitions.specs.Edges.{IsAdmittedComp}
use Rattle.price_bound.specs.declared.cells.Cell.{Cell}
use Rattle.price_bound.specs.declared.passes.Passes.{Passes}
use Rattle.price_bound.specs.CellRows.{AreHeld, IsHeld, MayRunOn, all_bare, bare, cell_in, offered_from}
use Rattle.price_bound.specs.CellSizes.{AreSmallCells, IsSmall}
use Rattle.price_bound.specs.ChainStages.{priced_cost_of}
use Rattle.price_bound.specs.HeldValues.{HoldsCell, least_none, no_value}
use Rattle.price_bound.specs.PassValues.{AreAhead, ArePassValues, IsForPasses, IsPassedSmall, comps_for, most_held, priced_for, value_at}
use Rattle.price_bound.specs.Paths.{with_priced_cost}
use Rattle.price_bound.proofs.EdgeGroups.{IsFilled, cell_on, filled_all, some_more}
use Rattle.price_bound.proofs.PassLoops.{passed_small, priced_cost_runs}

-- ---- what stands in a row

abbrev some_of : ℤ → Option Cell
some_of value = Some (record { value = value; next = 0 })

in_below : (value : ℤ) → value <ℤ least_none → cell_in value ≡ some_of value
in_below value under = by (int_lt value least_none) refl
  where
    by : (less : Bool) → int_lt value least_none ≡ less → (if less then some_of value else None) ≡ some_of value
    by true is = refl
    by false is = absurd (omega (arith, ints, is, under))

in_high : (value : ℤ) → least_none ≤ℤ value → cell_in value ≡ None
in_high value high = by (int_lt value least_none) refl
  where
    by : (less : Bool) → int_lt value least_none ≡ less → (if less then some_of value else None) ≡ None
    by true is = absurd (omega (arith, ints, is, high))
    by false is = refl

-- a cell with a priced cost, by the value that stands for it
pub passed_cell : (priced_cost : Option ℤ) (value : ℤ) (offered : Option Cell)
    → ((w : ℤ) → priced_cost ≡ Some w → HoldsCell least_none value offered × IfSome offered (λ it. it.value <ℤ least_none))
    → with_priced_cost priced_cost (cell_in value) ≡ bare (with_priced_cost priced_cost offered)
passed_cell None value offered held = refl
passed_cell (Some w) value None held = ap (with_priced_cost (Some w)) (in_high value (held w refl).0)
passed_cell (Some w) value (Some cell) held =
    let same : value ≡ cell.value = (held w refl).0 in
    ap (λ (x : ℤ). with_priced_cost (Some w) (cell_in x)) same ∙ ap (with_priced_cost (Some w)) (in_below cell.value (held w refl).1)

-- ---- the row ahead

below_small : (x : ℤ) → IsSmall 8500000000000000000 x → IsSmall most_held x
below_small x small = let p = small.above in let q = small.below in record { above = omega (arith, ints, p); below = omega (arith, ints, q) }

none_small : (x : ℤ) → x ≡ no_value → IsSmall most_held x
none_small x e = record { above = omega (arith, ints, e); below = omega (arith, ints, e) }

none_high : (x : ℤ) → x ≡ no_value → no_value ≤ℤ x
none_high x e = omega (arith, ints, e)

none_limit : (x : ℤ) → x ≡ no_value → least_none ≤ℤ x
none_limit x e = omega (arith, ints, e)

pub held_ahead : (passes : Passes) (values : List ℤ) (row : List (Option Cell)) → map cell_in values ≡ row → AreHeld values → length row ≡ comps_for passes
    → MayRunOn (priced_for passes).day passes.turn.departing row → AreSmallCells 8500000000000000000 row → AreAhead passes values
held_ahead passes values row view held long runs small = record {
  long = values_long;
  is = record {
    holds = λ comp below. subst (HoldsCell no_value (value_at values comp)) (sym (at comp below)) (holds comp (held comp (pos 0) (inside comp below)));
    runs = subst (MayRunOn (priced_for passes).day passes.turn.departing) (sym view) runs;
    small = subst (AreSmallCells 8500000000000000000) (sym view) small;
  };
  small = λ comp below. fits comp below (held comp (pos 0) (inside comp below));
}
  where
    values_long : length values ≡ comps_for passes
    values_long = sym (length-map values cell_in) ∙ ap length view ∙ long

    inside : (comp : ℕ) → comp < comps_for passes → comp < length values
    inside comp below = omega (arith, below, values_long)

    at : (comp : ℕ) → comp < comps_for passes → get_or (map cell_in values) comp None ≡ cell_in (value_at values comp)
    at comp below = get_or-map cell_in values comp (pos 0) None (inside comp below)

    holds : (comp : ℕ) → IsHeld (value_at values comp) → HoldsCell no_value (value_at values comp) (cell_in (value_at values comp))
    holds comp (inl under) = subst (HoldsCell no_value (value_at values comp)) (sym (in_below (value_at values comp) under)) refl
    holds comp (inr none) =
        subst (HoldsCell no_value (value_at values comp)) (sym (in_high (value_at values comp) (none_limit (value_at values comp) none)))
        (none_high (value_at values comp) none)

    fits : (comp : ℕ) → comp < comps_for passes → IsHeld (value_at values comp) → IsSmall most_held (value_at values comp)
    fits comp below (inl under) =
        below_small (value_at values comp)
        (small comp (record { value = value_at values comp; next = 0 })
        (ap (λ (r : List (Option Cell)). get_or r comp None) (sym view) ∙ at comp below ∙ in_below (value_at values comp) under))
    fits comp below (inr none) = none_small (value_at values comp) none

-- ---- the cells of the row

module _ (passes : Passes) (is : IsForPasses passes) (ahead : List ℤ) (are : AreAhead passes ahead) (row : List (Option Cell)) (view : map cell_in ahead ≡ row)
    (t : ℕ) (arrives : t ≡ passes.turn.arriving) (leads : outgoing (priced_for passes).day t ≡ Some passes.link) (values : List ℤ)
    (found : ArePassValues passes ahead values) where
  abbrev here : ℕ → Option Cell
  here comp = offered_from (priced_for passes) (outgoing (priced_for passes).day t) row comp

  here_is : (comp : ℕ) → offered_from (priced_for passes) (Some passes.link) (map cell_in ahead) comp ≡ here comp
  here_is comp =
      ap (λ (r : List (Option Cell)). offered_from (priced_for passes) (Some passes.link) r comp) view
      ∙ ap (λ (link : Option ℕ). offered_from (priced_for passes) link row comp) (sym leads)

  runs_by : (comp : ℕ) (w : ℤ) → priced_cost_of (priced_for passes) t comp ≡ Some w → IsAdmittedComp (priced_for passes).day passes.turn.arriving comp
  runs_by comp w has = subst (λ (k : ℕ). IsAdmittedComp (priced_for passes).day k comp) arrives (priced_cost_runs (priced_for passes) t comp w has)

  here_small : (comp : ℕ) → comp < comps_for passes → (w : ℤ) → priced_cost_of (priced_for passes) t comp ≡ Some w → (bound : ℕ) → AreSmallCells bound row
      → IfSome (here comp) (λ it. IsSmall (bound + 13000000000000000) it.value)
  here_small comp below w has bound each = on (here comp) refl
    where
      on : (o : Option Cell) → here comp ≡ o → IfSome o (λ it. IsSmall (bound + 13000000000000000) it.value)
      on None at = tt
      on (Some it) at =
          passed_small passes is ahead are comp below (runs_by comp w has) it (here_is comp ∙ at) bound (subst (AreSmallCells bound) (sym view) each)

  held_here : (comp : ℕ) → comp < comps_for passes → (w : ℤ) → priced_cost_of (priced_for passes) t comp ≡ Some w
      → HoldsCell least_none (value_at values comp) (here comp) × IfSome (here comp) (λ it. it.value <ℤ least_none)
  held_here comp below w has = (
    subst (HoldsCell least_none (value_at values comp)) (here_is comp) (found.each comp below (runs_by comp w has)),
    under (here comp) (here_small comp below w has 8500000000000000000 (subst (AreSmallCells 8500000000000000000) view are.is.small)),
  )
    where
      less : (x : ℤ) → IsSmall (8500000000000000000 + 13000000000000000) x → x <ℤ least_none
      less x small = let q = small.below in omega (arith, ints, q)

      under : (o : Option Cell) → IfSome o (λ it. IsSmall (8500000000000000000 + 13000000000000000) it.value) → IfSome o (λ it. it.value <ℤ least_none)
      under None small = tt
      under (Some it) small = less it.value small

  -- the cell of a composition, but where it leads
  pub cell_is : (comp : ℕ) → comp < comps_for passes
      → with_priced_cost (priced_cost_of (priced_for passes) t comp) (cell_in (value_at values comp)) ≡ bare (cell_on (priced_for passes) t row comp)
  cell_is comp below = passed_cell (priced_cost_of (priced_for passes) t comp) (value_at values comp) (here comp) (held_here comp below)

  -- the value is small where the composition has a priced cost
  pub value_few : (comp : ℕ) → comp < comps_for passes → (bound : ℕ) → AreSmallCells bound row → IsPassedSmall (priced_for passes) t comp (bound + 13000000000000000) (value_at values comp)
  value_few comp below bound each w has = on (here comp) (held_here comp below w has) (here_small comp below w has bound each)
    where
      on : (o : Option Cell) → HoldsCell least_none (value_at values comp) o × IfSome o (λ it. it.value <ℤ least_none)
          → IfSome o (λ it. IsSmall (bound + 13000000000000000) it.value) → IfSome (cell_in (value_at values comp)) (λ it. IsSmall (bound + 13000000000000000) it.value)
      on None held small = subst (λ (o : Option Cell). IfSome o (λ it. IsSmall (bound + 13000000000000000) it.value)) (sym (in_high (value_at values comp) held.0)) tt
      on (Some it) held small =
          subst (λ (o : Option Cell). IfSome o (λ it. IsSmall (bound + 13000000000000000) it.value)) (sym (ap cell_in held.0 ∙ in_below it.value held.1)) small

  pub value_small : AreSmallCells 8500000000000000000 row → (comp : ℕ) → comp < comps_for passes
      → IsPassedSmall (priced_for passes) t comp 9000000000000000000 (value_at values comp)
  value_small each comp below w has =
      some_more (8500000000000000000 + 13000000000000000) 9000000000000000000 (cell_in (value_at values comp)) (omega arith)
      (value_few comp below 8500000000000000000 each w has)

-- ---- the row

bare_twice : (o : Option Cell) → bare (bare o) ≡ bare o
bare_twice None = refl
bare_twice (Some cell) = refl

pub filled_bare : (n : ℕ) (cell : ℕ → Option Cell) (IsFew : Option Cell → Type 0) (comp : ℕ) (row whole : List (Option Cell))
    → IsFilled n (λ k. bare (cell k)) IsFew comp row → n ≤ comp → length whole ≡ n → ((k : ℕ) → k < n → get_or whole k None ≡ cell k) → row ≡ all_bare whole
filled_bare n cell IsFew comp row whole done past long each =
    filled_all n cell IsFew comp row whole (record { long = done.long; cells = λ k lt. done.cells k lt ∙ bare_twice (cell k); few = done.few }) past long each
