-- The row tells that there is a cell. The row ahead is small, as each is.
use Rattle.std.proofs.Common.{◌≡◌, ◌<◌, ◌+◌, ℕ, [], List, Option, None, length, get_or, sym, ap, ◌∙◌, subst, arith}
use Rattle.std.specs.Prelude.{is_none}
use Rattle.std.proofs.lemmas.List.{get_or_default, get_or_read}
use Rattle.price_bound.specs.declared.cells.Cell.{Cell}
use Rattle.price_bound.specs.CellRows.{row_on}
use Rattle.price_bound.specs.CellSizes.{AreSmallCells, most_ahead}
use Rattle.price_bound.specs.ChainStages.{Priced}
use Rattle.price_bound.specs.Pricing.{priced_by}
use Rattle.price_bound.proofs.Onward.{leads_nowhere, none_in_row}
use Rattle.price_bound.proofs.chain_rows.ChainRows.next.Goals as goal

pub next_at-requires-clause-small : goal.next_at-requires-clause-small
next_at-requires-clause-small c =
    let items : List (List (Option Cell)) = c.self.inside.rows.items in
    let ahead : ℕ = c.args.place + 1 in
    let below : ahead < length c.args.chain.now = omega (arith, c.if-place-chain.false) in
    let within : ahead < length items = omega (arith, below, c.requires.few, c.requires.room.height, ap length c.self.view_is) in
    let row : c.index-2.result.now ≡ get_or c.args.self.now ahead [] =
    c.index-2.ensures ∙ get_or_default items ahead c.index-2.result.now [] within
    ∙ ap (λ (rows : List (List (Option Cell))). get_or rows ahead []) c.self.view_is in
    subst (AreSmallCells most_ahead) (sym row) (c.requires.small ahead below)

pub next_at-requires-clause-there : goal.next_at-requires-clause-there
next_at-requires-clause-there c =
    let priced : Priced = priced_by c.args.pricing.now in
    let items : List (List (Option Cell)) = c.self.inside.rows.items in
    let ahead : ℕ = c.args.place + 1 in
    let below : ahead < length c.args.chain.now = omega (arith, c.if-place-chain.false) in
    let high : length items ≡ length c.args.pricing.now.instance.now.trips =
    ap length c.self.view_is ∙ c.requires.room.height in
    let own : c.index.result.now ≡ get_or c.args.self.now c.args.place [] =
    c.index.ensures ∙ get_or_default items c.args.place c.index.result.now [] (omega (arith, c.requires.place, c.requires.few, high))
    ∙ ap (λ (rows : List (List (Option Cell))). get_or rows c.args.place []) c.self.view_is in
    let row : c.index-2.result.now ≡ get_or c.args.self.now ahead [] =
    c.index-2.ensures ∙ get_or_default items ahead c.index-2.result.now [] (omega (arith, below, c.requires.few, high))
    ∙ ap (λ (rows : List (List (Option Cell))). get_or rows ahead []) c.self.view_is in
    let trip : c.index-chain-place.result ≡ get_or c.args.chain.now c.args.place 0 =
    get_or_read c.args.chain.now c.args.place c.index-chain-place.result c.requires.place c.index-chain-place.is 0 in
    ap (λ (t : ℕ). is_none (get_or (row_on priced t c.index-2.result.now) c.args.comp None)) trip
    ∙ ap (λ (r : List (Option Cell)). is_none (get_or (row_on priced (get_or c.args.chain.now c.args.place 0) r) c.args.comp None)) row
    ∙ sym (none_in_row priced c.args.chain.now c.args.self.now c.requires.rows c.args.place c.args.comp below)
    ∙ ap (λ (r : List (Option Cell)). is_none (get_or r c.args.comp None)) (sym own)
    ∙ ap is_none (sym c.cell_of.ensures ∙ c.in-Some.is)

pub returns-in_default : goal.returns-in_default
returns-in_default c below =
    let priced : Priced = priced_by c.args.pricing.now in
    let items : List (List (Option Cell)) = c.self.inside.rows.items in
    let high : length items ≡ length c.args.pricing.now.instance.now.trips =
    ap length c.self.view_is ∙ c.requires.room.height in
    let own : c.index.result.now ≡ get_or c.args.self.now c.args.place [] =
    c.index.ensures ∙ get_or_default items c.args.place c.index.result.now [] (omega (arith, c.requires.place, c.requires.few, high))
    ∙ ap (λ (rows : List (List (Option Cell))). get_or rows c.args.place []) c.self.view_is in
    leads_nowhere (get_or (row_on priced (get_or c.args.chain.now c.args.place 0) (get_or c.args.self.now (c.args.place + 1) [])) c.args.comp None)
    (sym (none_in_row priced c.args.chain.now c.args.self.now c.requires.rows c.args.place c.args.comp below)
    ∙ ap (λ (r : List (Option Cell)). is_none (get_or r c.args.comp None)) (sym own)
    ∙ ap is_none (sym c.cell_of.ensures ∙ c.in_default.is))
