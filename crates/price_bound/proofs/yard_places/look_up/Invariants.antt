-- The trips so far have looked.
use Rattle.std.proofs.Common.{◌≡◌, ◌≤◌, ◌<◌, ◌++◌, ℕ, [], take, drop, length, get_or, map}
use Rattle.std.specs.List.{All}
use Rattle.price_bound.specs.YardTables.{amounts_at}
use Rattle.price_bound.proofs.yard_places.look_up.Given as goal

abbrev pub invariant-loop-trip : goal.invariant-loop-trip
invariant-loop-trip l = record {
  rows : take l.trip l.table ++ map (amounts_at l.yards) (drop l.trip l.places) ≡ map (amounts_at l.yards) l.places;
  height : length l.table ≡ length l.places;
  widths : (row : ℕ) → l.trip ≤ row → row < length l.places → All (λ types. length (get_or l.table row []) ≡ length types) l.yards;
}
