-- Tables without some trips keep within the ranges of their columns.
use Rattle.std.proofs.Common.{◌+◌, ◌≤◌, ℕ, Bool, true, false, List, [], ◌∷◌, length, arith}
use Rattle.std.specs.Prelude.{not, filter, if◌then◌else◌}
use Rattle.std.proofs.lemmas.List.Elements.{All-filter}
use Rattle.rail_csv.specs.declared.rows.LinkRow.{LinkRow}
use Rattle.rail_csv.specs.Rows.{IsLinkRow, IsTripRow}
use Rattle.day_tables.specs.declared.building.tables.Tables.{Tables}
use Rattle.day_tables.specs.DayTables.{AreTables}
use Rattle.day_tables.specs.DerivedDays.{left_from, row_names_gone, tables_without}
use Rattle.day_tables.specs.Lists.{has}
use Rattle.day_tables.proofs.LeftEntries.{left_all}

few_step : {X : Type 0} (b : Bool) (x : X) (rest : List X) (n : ℕ) → length rest ≤ n → length (if b then rest else x ∷ rest) ≤ n + 1
few_step true x rest n few = omega arith
few_step false x rest n few = omega arith

few_left : {X : Type 0} (gone : List ℕ) (xs : List X) (n : ℕ) → length (left_from gone n xs) ≤ length xs
few_left gone [] n = omega arith
few_left gone (x ∷ xs) n = let step = few_step (has n gone) x (left_from gone (n + 1) xs) (length xs) (few_left gone xs (n + 1)) in omega arith

kept_step : {X : Type 0} (b : Bool) (x : X) (rest : List X) (n : ℕ) → length rest ≤ n → length (if b then x ∷ rest else rest) ≤ n + 1
kept_step true x rest n few = omega arith
kept_step false x rest n few = omega arith

few_kept : {X : Type 0} (p : X → Bool) (xs : List X) → length (filter p xs) ≤ length xs
few_kept p [] = omega arith
few_kept p (x ∷ xs) = let step = kept_step (p x) x (filter p xs) (length xs) (few_kept p xs) in omega arith

pub are_tables_without : (gone : List ℕ) (tables : Tables) → AreTables tables → AreTables (tables_without gone tables)
unfolding tables_without
are_tables_without gone tables are =
    let names : LinkRow → Bool = λ row. not (row_names_gone tables.trips gone row) in
    let few_trips = are.trips.few in
    let few_links = are.links.few in
    record {
      types = are.types;
      stations = are.stations;
      stock = are.stock;
      trips = record { few = omega (arith, few_left gone tables.trips 0); each = left_all gone (λ row. IsTripRow row) tables.trips 0 are.trips.each };
      links = record { few = omega (arith, few_kept names tables.links); each = All-filter names (λ row. IsLinkRow row) tables.links are.links.each };
      weights = are.weights;
    }
