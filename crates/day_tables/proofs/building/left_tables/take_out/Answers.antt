-- One place after another, from the last to the first.
use Rattle.std.proofs.Common.{◌≡◌, ◌+◌, ◌-◌, ◌≤◌, ◌++◌, ℕ, List, length, take, drop, sym, subst, arith}
use Rattle.day_tables.specs.DerivedDays.{left_from}
use Rattle.day_tables.proofs.LeftRows.{taken_out}
use Rattle.day_tables.proofs.building.left_tables.take_out.Goals as goal

pub loop-place-preserved : goal.loop-place-preserved
loop-place-preserved g c =
    let gone : List ℕ = c.args.gone.now in
    let all : List g.row.T.Denot = c.args.rows.now.items in
    let rows : List g.row.T.Denot = c.loop-place.rows.items in
    let place : ℕ = c.loop-place.place in
    let test = c.loop-place-test.true in
    let inside : place ≤ length all = c.loop-place.invariant.1 in
    let one_more : (place - 1) + 1 ≡ place = omega arith in
    let so_far : rows ≡ take (place - 1 + 1) all ++ left_from gone (place - 1 + 1) (drop (place - 1 + 1) all) =
    subst (λ (k : ℕ). rows ≡ take k all ++ left_from gone k (drop k all)) (sym one_more) c.loop-place.invariant.0 in
    (taken_out gone all rows c.take_out_at.new.rows.items (place - 1) (omega arith) so_far c.take_out_at.ensures, omega arith)
