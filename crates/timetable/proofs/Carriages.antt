-- How many carriages a composition has.
use Rattle.std.proofs.Common.{◌≡◌, ℕ, ◌*◌, ◌<◌, ◌≤◌, List, [], ◌∷◌, length, get_or, Some, None, ⊎_elim, subst, arith}
use Rattle.std.proofs.Common.{slice_get}
use Rattle.std.proofs.lemmas.Option.{slice_get_cases}
use Rattle.std.specs.List.{All}
use Rattle.rules.specs.declared.records.UnitType.{UnitType}
use Rattle.compositions.specs.Composition.{of_type, carriages_of}
use Rattle.timetable.specs.Accepted.{IsUnitType}

-- a type has at most 20 carriages
carriages_of_type : (types : List UnitType) (m : ℕ) → All IsUnitType types → of_type (λ t. t.carriages) types m ≤ 20
carriages_of_type types m each = ⊎_elim (λ w. there w.0 w.1 w.2 w.3) (λ w. nothing w.1) (slice_get_cases types m).1
  where
    there : (x : UnitType) → m < length types → slice_get types m ≡ Some x → get_or types m x ≡ x → of_type (λ t. t.carriages) types m ≤ 20
    there x inside e same = rw e (subst (λ (y : UnitType). y.carriages ≤ 20) same (each m x inside).carriages)

    nothing : slice_get types m ≡ None → of_type (λ t. t.carriages) types m ≤ 20
    nothing e = rw e (omega arith)

-- six units have at most 120
pub carriages_le : (types : List UnitType) (ms : List ℕ) → All IsUnitType types → carriages_of types ms ≤ 20 * length ms
carriages_le types [] each = omega arith
carriages_le types (m ∷ ms) each = omega (arith, carriages_of_type types m each, carriages_le types ms each)
