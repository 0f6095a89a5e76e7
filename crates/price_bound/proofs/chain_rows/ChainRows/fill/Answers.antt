-- The rows are those that were made.
use Rattle.std.proofs.Common.{◌≡◌, ◌<◌, ◌*◌, ◌∙◌, ℕ, [], List, Option, length, drop, get_or, sym, ap, subst, arith}
use Rattle.std.proofs.lemmas.List.{take_at}
use Rattle.price_bound.specs.declared.cells.Cell.{Cell}
use Rattle.price_bound.specs.CellRows.{AreSmallBelow, comps_of}
use Rattle.price_bound.specs.PassRooms.{IsPassRoom}
use Rattle.price_bound.specs.Pricing.{priced_by}
use Rattle.price_bound.specs.CellSizes.{AreSmallCells}
use Rattle.price_bound.proofs.chain_rows.ChainRows.fill.Goals as goal

pub returns-clause-first : goal.returns-clause-first
returns-clause-first c =
    let long : length c.fill_rows.new.rows ≡ c.self.inside.rows.len =
    omega (arith, c.fill_rows.ensures.room.height, c.requires.room.height, ap length c.self.view_is, c.deref_mut.ensures.len) in
    subst (λ (rows : List (List (Option Cell))). AreSmallCells (length c.args.chain.now * 21000000000000000) (get_or rows 0 []))
    (sym (take_at c.fill_rows.new.rows (drop (length c.fill_rows.new.rows) c.self.inside.rows.items) c.self.inside.rows.len long))
    c.fill_rows.ensures.first

pub returns-clause-small : goal.returns-clause-small
returns-clause-small c =
    let long : length c.fill_rows.new.rows ≡ c.self.inside.rows.len =
    omega (arith, c.fill_rows.ensures.room.height, c.requires.room.height, ap length c.self.view_is, c.deref_mut.ensures.len) in
    subst (AreSmallBelow (length c.args.chain.now))
    (sym (take_at c.fill_rows.new.rows (drop (length c.fill_rows.new.rows) c.self.inside.rows.items) c.self.inside.rows.len long))
    c.fill_rows.ensures.small

pub fill_rows-requires-clause-passes : goal.fill_rows-requires-clause-passes
fill_rows-requires-clause-passes c =
    let some : 0 < length c.args.pricing.now.instance.now.trips = omega (arith, c.requires.some, c.requires.few) in
    let width : length (get_or c.self.inside.rows.items 0 []) ≡ comps_of (priced_by c.args.pricing.now) =
    ap (λ (rows : List (List (Option Cell))). length (get_or rows 0 [])) c.self.view_is ∙ c.requires.room.widths 0 some in
    subst (λ (n : ℕ). IsPassRoom n c.self.inside.pass_room) width
    (c.self.invariant 0 (omega (arith, some, c.requires.room.height, ap length c.self.view_is)))
