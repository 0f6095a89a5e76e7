-- The last row, and then one row more before the others.
use Rattle.std.proofs.Common.{◌≡◌, ◌<◌, ◌≤◌, ◌+◌, ◌-◌, ◌*◌, ℕ, suc, [], List, length, drop, get_or, set, sym, ap, ◌∙◌}
use Rattle.std.proofs.Common.{subst, arith, length-drop}
use Rattle.std.proofs.lemmas.List.{get_or-set_same, get_or_read, length-map}
use Rattle.price_bound.specs.CellRows.{LeadsTo, MayRunOn, all_bare, bare, comps_of, last_row_on, row_on}
use Rattle.price_bound.specs.CellSizes.{AreSmallCells}
use Rattle.price_bound.specs.ChainStages.{stage_of}
use Rattle.price_bound.specs.Pricing.{priced_by}
use Rattle.price_bound.proofs.ChainCells.{AreRowsFrom, cells_more, length-last_row, room_kept, rows_last, rows_more}
use Rattle.price_bound.proofs.RunsAhead.{leads_ahead}
use Rattle.price_bound.proofs.chain_rows.fill_rows.Goals as goal

pub loop-place-init : goal.loop-place-init
loop-place-init c =
    let chain : List ℕ = c.args.chain.now in
    let place : ℕ = length chain - 1 in
    let within : place < length chain = omega (arith, c.requires.some) in
    let below : place < length c.args.rows.now = omega (arith, within, c.requires.few, c.requires.room.height) in
    let trip : c.index-chain-place.result ≡ get_or chain place 0 =
    get_or_read chain place c.index-chain-place.result within c.index-chain-place.is 0 in
    let row : c.fill_last.new.row ≡ all_bare (last_row_on (priced_by c.args.pricing.now) (get_or chain place 0)) =
    c.fill_last.ensures.row ∙ ap (λ (t : ℕ). all_bare (last_row_on (priced_by c.args.pricing.now) t)) trip in
    let long : length c.fill_last.new.row ≡ comps_of (priced_by c.args.pricing.now) =
    ap length row ∙ length-map _ bare ∙ length-last_row (comps_of (priced_by c.args.pricing.now)) (stage_of (priced_by c.args.pricing.now) (get_or chain place 0)) in
    record {
      below = within;
      room = room_kept (length c.args.pricing.now.instance.now.trips) (comps_of (priced_by c.args.pricing.now)) place
          c.fill_last.new.row c.args.rows.now long c.requires.room;
      rows = rows_last (priced_by c.args.pricing.now) chain c.args.rows.now place (omega (arith, c.requires.some)) below
          (set c.args.rows.now place c.fill_last.new.row) (ap (set c.args.rows.now place) row)
          (subst (AreSmallCells 21000000000000000) (sym (get_or-set_same c.args.rows.now place c.fill_last.new.row [] below))
          c.fill_last.ensures.small)
          (subst (MayRunOn c.args.pricing.now.instance.now (get_or chain place 0))
          (sym (get_or-set_same c.args.rows.now place c.fill_last.new.row [] below))
          (subst (λ (t : ℕ). MayRunOn c.args.pricing.now.instance.now t c.fill_last.new.row) trip c.fill_last.ensures.runs));
      passes = c.requires.passes;
    }

pub fill_place-requires-clause-leads : goal.fill_place-requires-clause-leads
fill_place-requires-clause-leads c =
    let chain : List ℕ = c.args.chain.now in
    let place : ℕ = c.loop-place.place - 1 in
    let next : c.loop-place.place ≡ suc place = omega (arith, c.loop-place-test.true) in
    let one : place + 1 ≡ suc place = omega arith in
    let below : suc place < length chain = omega (arith, next, c.loop-place.invariant.below) in
    let trip : c.index-chain-place-in-loop-place.result ≡ get_or chain place 0 =
    get_or_read chain place c.index-chain-place-in-loop-place.result (omega (arith, below)) c.index-chain-place-in-loop-place.is 0 in
    let done : AreRowsFrom (priced_by c.args.pricing.now) chain (suc place) c.loop-place.rows =
    subst (λ (k : ℕ). AreRowsFrom (priced_by c.args.pricing.now) chain k c.loop-place.rows) next c.loop-place.invariant.rows in
    subst (λ (k : ℕ). LeadsTo c.args.pricing.now.instance.now c.index-chain-place-in-loop-place.result (get_or c.loop-place.rows k [])) (sym one)
    (subst (λ (t : ℕ). LeadsTo c.args.pricing.now.instance.now t (get_or c.loop-place.rows (suc place) [])) (sym trip)
    (leads_ahead c.args.pricing.now.instance.now c.links.ensures.sound chain place (get_or c.loop-place.rows (suc place) [])
    c.requires.follows below done.runs))

pub fill_place-requires-clause-ahead : goal.fill_place-requires-clause-ahead
fill_place-requires-clause-ahead c =
    let same : c.loop-place.place ≡ c.loop-place.place - 1 + 1 = omega (arith, c.loop-place-test.true) in
    let few : length (drop c.loop-place.place c.args.chain.now) ≤ 400 =
    omega (arith, length-drop c.loop-place.place c.args.chain.now, c.requires.few, c.trips.ensures.value, c.trips.ensures.few) in
    subst (λ (k : ℕ). AreSmallCells 8500000000000000000 (get_or c.loop-place.rows k [])) same
    (cells_more (length (drop c.loop-place.place c.args.chain.now) * 21000000000000000) 8500000000000000000
    (get_or c.loop-place.rows c.loop-place.place []) (omega (arith, few)) c.loop-place.invariant.rows.small)

pub loop-place-preserved : goal.loop-place-preserved
loop-place-preserved c =
    let chain : List ℕ = c.args.chain.now in
    let place : ℕ = c.loop-place.place - 1 in
    let next : c.loop-place.place ≡ suc place = omega (arith, c.loop-place-test.true) in
    let one : place + 1 ≡ suc place = omega arith in
    let below : suc place < length chain = omega (arith, next, c.loop-place.invariant.below) in
    let trip : c.index-chain-place-in-loop-place.result ≡ get_or chain place 0 =
    get_or_read chain place c.index-chain-place-in-loop-place.result (omega (arith, below)) c.index-chain-place-in-loop-place.is 0 in
    let done : AreRowsFrom (priced_by c.args.pricing.now) chain (suc place) c.loop-place.rows =
    subst (λ (k : ℕ). AreRowsFrom (priced_by c.args.pricing.now) chain k c.loop-place.rows) next c.loop-place.invariant.rows in
    let row : c.fill_place.new.rows
    ≡ set c.loop-place.rows place (all_bare (row_on (priced_by c.args.pricing.now) (get_or chain place 0) (get_or c.loop-place.rows (suc place) []))) =
    c.fill_place.ensures.row
    ∙ (ap (λ (t : ℕ). set c.loop-place.rows place (all_bare (row_on (priced_by c.args.pricing.now) t (get_or c.loop-place.rows (place + 1) [])))) trip
    ∙ ap (λ (k : ℕ). set c.loop-place.rows place (all_bare (row_on (priced_by c.args.pricing.now) (get_or chain place 0) (get_or c.loop-place.rows k [])))) one) in
    record {
      below = omega (arith, below);
      room = c.fill_place.ensures.room;
      rows = rows_more (priced_by c.args.pricing.now) chain c.loop-place.rows place below done c.fill_place.new.rows row
          (λ bound each. c.fill_place.ensures.small bound
          (subst (λ (k : ℕ). AreSmallCells bound (get_or c.loop-place.rows k [])) (sym one) each))
          (omega (arith, c.requires.few, c.trips.ensures.value, c.trips.ensures.few))
          (subst (λ (t : ℕ). MayRunOn c.args.pricing.now.instance.now t (get_or c.fill_place.new.rows place [])) trip c.fill_place.ensures.runs);
      passes = c.fill_place.ensures.passes;
    }

pub returns-clause-first : goal.returns-clause-first
returns-clause-first c =
    let first : c.loop-place.place ≡ 0 = omega (arith, c.loop-place-test.false) in
    let from : AreRowsFrom (priced_by c.args.pricing.now) c.args.chain.now 0 c.loop-place.rows =
    subst (λ (k : ℕ). AreRowsFrom (priced_by c.args.pricing.now) c.args.chain.now k c.loop-place.rows) first c.loop-place.invariant.rows in
    from.small

pub returns-clause-small : goal.returns-clause-small
returns-clause-small c =
    let first : c.loop-place.place ≡ 0 = omega (arith, c.loop-place-test.false) in
    let from : AreRowsFrom (priced_by c.args.pricing.now) c.args.chain.now 0 c.loop-place.rows =
    subst (λ (k : ℕ). AreRowsFrom (priced_by c.args.pricing.now) c.args.chain.now k c.loop-place.rows) first c.loop-place.invariant.rows in
    λ place below. from.each place (omega arith) below
