-- The row at the place, before the row behind it.
use Rattle.std.proofs.Common.{◌≡◌, ◌<◌, ◌+◌, ◌++◌, [], List, Option, length, get_or, set, sym, ap, ◌∙◌, subst, arith}
use Rattle.std.proofs.lemmas.List.{get_or-set_same, length-map}
use Rattle.price_bound.specs.declared.cells.Cell.{Cell}
use Rattle.price_bound.specs.CellRows.{HaveRoomFor, LeadsTo, MayRunOn, all_bare, bare, comps_of, row_on}
use Rattle.price_bound.specs.CellSizes.{AreSmallCells}
use Rattle.price_bound.specs.ChainStages.{stage_of}
use Rattle.price_bound.specs.Pricing.{priced_by}
use Rattle.price_bound.proofs.ChainCells.{length-row_before, room_kept, row_in_back, row_in_front, row_put}
use Rattle.price_bound.proofs.chain_rows.fill_place.Goals as goal

pub fill_before-requires-clause-row : goal.fill_before-requires-clause-row
fill_before-requires-clause-row c =
    let below : c.args.place + 1 < length c.args.rows.now = omega (arith, c.requires.place, c.requires.room.height) in
    ap length (row_in_front c.args.rows.now c.split_at_mut-front.result.0.now c.split_at_mut-front.result.1.now c.args.place
    c.split_at_mut-front.ensures.value c.split_at_mut-front.ensures.front_len below c.index-front-place.result)
    ∙ c.requires.room.widths c.args.place (omega (arith, c.requires.place))

pub fill_before-requires-clause-ahead : goal.fill_before-requires-clause-ahead
fill_before-requires-clause-ahead c =
    let below : c.args.place + 1 < length c.args.rows.now = omega (arith, c.requires.place, c.requires.room.height) in
    ap length (row_in_back c.args.rows.now c.split_at_mut-front.result.0.now c.split_at_mut-front.result.1.now c.args.place
    c.split_at_mut-front.ensures.value c.split_at_mut-front.ensures.front_len below c.index-back-0.result)
    ∙ c.requires.room.widths (c.args.place + 1) c.requires.place

pub fill_before-requires-clause-small : goal.fill_before-requires-clause-small
fill_before-requires-clause-small c =
    let below : c.args.place + 1 < length c.args.rows.now = omega (arith, c.requires.place, c.requires.room.height) in
    subst (AreSmallCells 8500000000000000000)
    (sym (row_in_back c.args.rows.now c.split_at_mut-front.result.0.now c.split_at_mut-front.result.1.now c.args.place
    c.split_at_mut-front.ensures.value c.split_at_mut-front.ensures.front_len below c.index-back-0.result)) c.requires.ahead

pub returns-clause-room : goal.returns-clause-room
returns-clause-room c =
    let below : c.args.place + 1 < length c.args.rows.now = omega (arith, c.requires.place, c.requires.room.height) in
    let long : length c.fill_before.new.row ≡ comps_of (priced_by c.args.pricing.now) =
    ap length c.fill_before.ensures.row ∙ length-map _ bare
    ∙ length-row_before (comps_of (priced_by c.args.pricing.now)) (stage_of (priced_by c.args.pricing.now) c.args.trip) _ in
    subst (HaveRoomFor (priced_by c.args.pricing.now))
    (sym (row_put c.args.rows.now c.split_at_mut-front.result.0.now c.split_at_mut-front.result.1.now c.args.place
    c.split_at_mut-front.ensures.value c.split_at_mut-front.ensures.front_len below c.fill_before.new.row))
    (room_kept (length c.args.pricing.now.instance.now.trips) (comps_of (priced_by c.args.pricing.now)) c.args.place
    c.fill_before.new.row c.args.rows.now long c.requires.room)

pub returns-clause-row : goal.returns-clause-row
returns-clause-row c =
    let below : c.args.place + 1 < length c.args.rows.now = omega (arith, c.requires.place, c.requires.room.height) in
    row_put c.args.rows.now c.split_at_mut-front.result.0.now c.split_at_mut-front.result.1.now c.args.place
    c.split_at_mut-front.ensures.value c.split_at_mut-front.ensures.front_len below c.fill_before.new.row
    ∙ ap (set c.args.rows.now c.args.place) (c.fill_before.ensures.row
    ∙ ap (λ (ahead : List (Option Cell)). all_bare (row_on (priced_by c.args.pricing.now) c.args.trip ahead))
    (row_in_back c.args.rows.now c.split_at_mut-front.result.0.now c.split_at_mut-front.result.1.now c.args.place
    c.split_at_mut-front.ensures.value c.split_at_mut-front.ensures.front_len below c.index-back-0.result))

pub returns-clause-small : goal.returns-clause-small
returns-clause-small c bound small =
    let below : c.args.place + 1 < length c.args.rows.now = omega (arith, c.requires.place, c.requires.room.height) in
    let put : set c.split_at_mut-front.result.0.now c.args.place c.fill_before.new.row ++ c.split_at_mut-front.result.1.now
    ≡ set c.args.rows.now c.args.place c.fill_before.new.row =
    row_put c.args.rows.now c.split_at_mut-front.result.0.now c.split_at_mut-front.result.1.now c.args.place
    c.split_at_mut-front.ensures.value c.split_at_mut-front.ensures.front_len below c.fill_before.new.row in
    let here : get_or (set c.split_at_mut-front.result.0.now c.args.place c.fill_before.new.row ++ c.split_at_mut-front.result.1.now)
    c.args.place [] ≡ c.fill_before.new.row =
    ap (λ (rows : List (List (Option Cell))). get_or rows c.args.place []) put
    ∙ get_or-set_same c.args.rows.now c.args.place c.fill_before.new.row [] (omega (arith, below)) in
    subst (AreSmallCells (bound + 21000000000000000)) (sym here)
    (c.fill_before.ensures.small bound (subst (AreSmallCells bound)
    (sym (row_in_back c.args.rows.now c.split_at_mut-front.result.0.now c.split_at_mut-front.result.1.now c.args.place
    c.split_at_mut-front.ensures.value c.split_at_mut-front.ensures.front_len below c.index-back-0.result)) small))

pub fill_before-requires-clause-leads : goal.fill_before-requires-clause-leads
fill_before-requires-clause-leads c =
    let below : c.args.place + 1 < length c.args.rows.now = omega (arith, c.requires.place, c.requires.room.height) in
    subst (LeadsTo c.args.pricing.now.instance.now c.args.trip)
    (sym (row_in_back c.args.rows.now c.split_at_mut-front.result.0.now c.split_at_mut-front.result.1.now c.args.place
    c.split_at_mut-front.ensures.value c.split_at_mut-front.ensures.front_len below c.index-back-0.result)) c.requires.leads

pub returns-clause-runs : goal.returns-clause-runs
returns-clause-runs c =
    let below : c.args.place + 1 < length c.args.rows.now = omega (arith, c.requires.place, c.requires.room.height) in
    let put : set c.split_at_mut-front.result.0.now c.args.place c.fill_before.new.row ++ c.split_at_mut-front.result.1.now
    ≡ set c.args.rows.now c.args.place c.fill_before.new.row =
    row_put c.args.rows.now c.split_at_mut-front.result.0.now c.split_at_mut-front.result.1.now c.args.place
    c.split_at_mut-front.ensures.value c.split_at_mut-front.ensures.front_len below c.fill_before.new.row in
    let here : get_or (set c.split_at_mut-front.result.0.now c.args.place c.fill_before.new.row ++ c.split_at_mut-front.result.1.now)
    c.args.place [] ≡ c.fill_before.new.row =
    ap (λ (rows : List (List (Option Cell))). get_or rows c.args.place []) put
    ∙ get_or-set_same c.args.rows.now c.args.place c.fill_before.new.row [] (omega (arith, below)) in
    subst (MayRunOn c.args.pricing.now.instance.now c.args.trip) (sym here) c.fill_before.ensures.runs
