-- The room in which passes are made.
use Rattle.std.specs.Prelude.{ℕ, suc, ◌≡◌, ◌<◌, List, [], length, get_or, Option, false}
use Rattle.rules.specs.declared.records.Link.{Link}
use Rattle.rules.specs.declared.records.LinkKind.TheVariants.{Turn}
use Rattle.price_bound.specs.declared.cells.Cell.{Cell}
use Rattle.price_bound.specs.declared.pass_room.PassRoom.{PassRoom}
use Rattle.price_bound.specs.declared.passes.PlainTurn.{PlainTurn}

-- it has a place for each of so many compositions, and one more for no units
pub record IsPassRoom (comps : ℕ) (room : PassRoom) : Type 0 where
  pub shorter : length room.shorter.items ≡ suc comps
  pub longer : length room.longer.items ≡ suc comps
  pub values : length room.values.items ≡ comps

-- it fits each of these rows
abbrev pub FitsRows : List (List (Option Cell)) → PassRoom → Type 0
FitsRows rows room = (row : ℕ) → row < length rows → IsPassRoom (length (get_or rows row [])) room

-- the link is this turn, without exchange
pub record IsPlain (link : Link) (turn : PlainTurn) : Type 0 where
  pub kind : link.kind ≡ Turn turn.arriving turn.departing turn.uncouple turn.couple false
  pub reversed : link.reverse ≡ turn.reverse
