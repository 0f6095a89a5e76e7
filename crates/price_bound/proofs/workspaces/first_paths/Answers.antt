-- One chain more has its first path, or there is none.
use Rattle.std.proofs.Common.{◌≡◌, ℕ, suc, ◌+◌, ◌*◌, ◌≤◌, List, Some, None, length, take, ℤ, ◌+ℤ◌, ap, sym}
use Rattle.std.proofs.Common.{subst, arith, ◌∙◌}
use Rattle.timetable.specs.Chains.{chains_of}
use Rattle.price_bound.specs.declared.cells.Cell.{Cell}
use Rattle.price_bound.specs.CellRows.{chain_rows, put_along}
use Rattle.price_bound.specs.CellSizes.{IsSmall}
use Rattle.price_bound.proofs.Adding.{small_more}
use Rattle.price_bound.specs.ChainStages.{AreFirstPaths}
use Rattle.price_bound.specs.Paths.{begin_of, path_from}
use Rattle.price_bound.specs.Pricing.{priced_by}
use Rattle.price_bound.proofs.ChainCells.{begin_of_bare}
use Rattle.price_bound.proofs.ChainSteps.{lacks, next_first, some_trip}
use Rattle.price_bound.proofs.Finding.{begin_small, begin_taken, chain_few, value_small}
use Rattle.price_bound.proofs.PutPaths.{length-put}
use Rattle.price_bound.proofs.workspaces.first_paths.Goals as goal

pub fill-requires-clause-few : goal.fill-requires-clause-few
fill-requires-clause-few c =
    chain_few c.args.pricing.now.instance.now c.loop-chain.chain c.chain-trips.result.now c.chain-trips.ensures.value

pub returns-in_default-clause-found : goal.returns-in_default-clause-found
returns-in_default-clause-found c =
    let chain : List ℕ = c.chain-trips.result.now in
    let some : 1 ≤ length chain = some_trip (priced_by c.args.pricing.now) c.requires.priced.graphs_are c.chains-chain-end.ensures.whole
    c.loop-chain.chain chain c.chain-trips.ensures.value chain c.chain-trips.ensures.whole in
    let none : begin_of (chain_rows (priced_by c.args.pricing.now) chain) ≡ None =
    sym (begin_of_bare (chain_rows (priced_by c.args.pricing.now) chain))
    ∙ ap begin_of (sym c.fill.ensures.rows) ∙ (begin_taken (length chain) c.fill.new.self some
    ∙ (sym c.begin.ensures ∙ c.in_default.is)) in
    lacks (priced_by c.args.pricing.now) c.requires.priced.graphs_are c.chains-chain-end.ensures.whole c.loop-chain.chain chain
    c.chain-trips.ensures.value none

pub put_path-requires-clause-few : goal.put_path-requires-clause-few
put_path-requires-clause-few c =
    chain_few c.args.pricing.now.instance.now c.loop-chain.chain c.chain-trips.result.now c.chain-trips.ensures.value

pub with_begin-value-requires-clause-value : goal.with_begin-value-requires-clause-value
with_begin-value-requires-clause-value c =
    let few : c.loop-chain.chain ≤ 400 = omega (arith, c.loop-chain-test.true, c.chains-chain-end.ensures.few) in
    small_more (c.loop-chain.chain * 20000000000000000000) 1000000000000000000000000000000 c.loop-chain.value.0
    (omega (arith, few)) c.loop-chain.invariant.small

pub with_begin-value-requires-clause-begin : goal.with_begin-value-requires-clause-begin
with_begin-value-requires-clause-begin c =
    let chain : List ℕ = c.chain-trips.result.now in
    let few : length chain ≤ 400 = omega (
      arith,
      chain_few c.args.pricing.now.instance.now c.loop-chain.chain chain c.chain-trips.ensures.value,
      c.trips.ensures.value,
      c.trips.ensures.few,
    ) in
    small_more (length chain * 21000000000000000) 1000000000000000000000000000000 c.in-Some.begin.value (omega (arith, few))
    (begin_small (length chain * 21000000000000000) c.fill.new.self c.in-Some.begin (sym c.begin.ensures ∙ c.in-Some.is)
    c.fill.ensures.first)

pub loop-chain-preserved : goal.loop-chain-preserved
loop-chain-preserved c =
    let chain : List ℕ = c.chain-trips.result.now in
    let i : ℕ = c.loop-chain.chain in
    let picks : List ℕ = c.loop-chain.choice in
    let begin : Cell = c.in-Some.begin in
    let few : length chain ≤ length c.args.pricing.now.instance.now.trips =
    chain_few c.args.pricing.now.instance.now i chain c.chain-trips.ensures.value in
    let most : length c.args.pricing.now.instance.now.trips ≤ 400 = omega (arith, c.trips.ensures.value, c.trips.ensures.few) in
    let some : 1 ≤ length chain = some_trip (priced_by c.args.pricing.now) c.requires.priced.graphs_are c.chains-chain-end.ensures.whole
    i chain c.chain-trips.ensures.value chain c.chain-trips.ensures.whole in
    let next : suc i ≡ i + 1 = omega arith in
    let there : begin_of c.fill.new.self ≡ Some begin = sym c.begin.ensures ∙ c.in-Some.is in
    let found : begin_of (chain_rows (priced_by c.args.pricing.now) chain) ≡ Some begin =
    sym (begin_of_bare (chain_rows (priced_by c.args.pricing.now) chain))
    ∙ ap begin_of (sym c.fill.ensures.rows) ∙ (begin_taken (length chain) c.fill.new.self some ∙ there) in
    let put : c.put_path.new.choice ≡ put_along chain (path_from (chain_rows (priced_by c.args.pricing.now) chain) begin.next) picks =
    c.put_path.ensures in
    let first : AreFirstPaths (priced_by c.args.pricing.now) (take (suc i) (chains_of c.args.pricing.now.instance.now))
    (put_along chain (path_from (chain_rows (priced_by c.args.pricing.now) chain) begin.next) picks) (c.loop-chain.value.0 +ℤ begin.value) =
    next_first (priced_by c.args.pricing.now) c.requires.priced.graphs_are c.chains-chain-end.ensures.whole i chain
    c.chain-trips.ensures.value picks c.loop-chain.value.0 begin (c.loop-chain.invariant.long ∙ c.requires.choice)
    c.loop-chain.invariant.first found in
    record {
      room = c.fill.ensures.room;
      long = ap length put ∙ (length-put chain (path_from (chain_rows (priced_by c.args.pricing.now) chain) begin.next) picks
          ∙ c.loop-chain.invariant.long);
      first = subst (λ (k : ℕ). AreFirstPaths (priced_by c.args.pricing.now) (take k (chains_of c.args.pricing.now.instance.now))
          c.put_path.new.choice c.with_begin-value.result.0) next
          (subst (λ (v : ℤ). AreFirstPaths (priced_by c.args.pricing.now) (take (suc i) (chains_of c.args.pricing.now.instance.now))
          c.put_path.new.choice v) (sym c.with_begin-value.ensures)
          (subst (λ (qs : List ℕ). AreFirstPaths (priced_by c.args.pricing.now) (take (suc i) (chains_of c.args.pricing.now.instance.now))
          qs (c.loop-chain.value.0 +ℤ begin.value)) (sym put) first));
      small = subst (IsSmall ((i + 1) * 20000000000000000000)) (sym c.with_begin-value.ensures)
          (value_small i (length chain) (length c.args.pricing.now.instance.now.trips) c.loop-chain.value.0 begin.value
          c.loop-chain.invariant.small few most
          (begin_small (length chain * 21000000000000000) c.fill.new.self begin there c.fill.ensures.first));
    }
