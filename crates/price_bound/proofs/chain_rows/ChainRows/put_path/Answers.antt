-- One trip more has its composition.
use Rattle.std.proofs.Common.{◌≡◌, ◌<◌, ℕ, suc, ◌+◌, [], List, Option, None, length, drop, get_or, set, ap, ◌∙◌, subst, sym, arith}
use Rattle.std.proofs.Common.{length-set}
use Rattle.std.proofs.lemmas.List.{get_or_read}
use Rattle.price_bound.specs.declared.cells.Cell.{Cell}
use Rattle.price_bound.specs.CellRows.{chain_rows, put_along, row_on}
use Rattle.price_bound.specs.ChainStages.{Priced}
use Rattle.price_bound.specs.Paths.{next_of, path_from}
use Rattle.price_bound.specs.Pricing.{priced_by}
use Rattle.price_bound.proofs.ChainCells.{path_more}
use Rattle.price_bound.proofs.chain_rows.ChainRows.put_path.Goals as goal

pub loop-place-preserved : goal.loop-place-preserved
loop-place-preserved c =
    let priced : Priced = priced_by c.args.pricing.now in
    let chain : List ℕ = c.args.chain.now in
    let rows : List (List (Option Cell)) = chain_rows priced chain in
    let p : ℕ = c.loop-place.place in
    let next : suc p ≡ p + 1 = omega arith in
    let trip : c.index-chain-place.result ≡ get_or chain p 0 =
    get_or_read chain p c.index-chain-place.result c.loop-place-test.true c.index-chain-place.is 0 in
    let picks : c.set.new.self ≡ set c.loop-place.choice (get_or chain p 0) c.loop-place.comp =
    c.set.ensures ∙ ap (λ (t : ℕ). set c.loop-place.choice t c.loop-place.comp) trip in
    let follows : suc p < length chain
    → c.next-comp.result ≡ next_of (get_or (row_on priced (get_or chain p 0) (get_or c.args.self.now (suc p) [])) c.loop-place.comp None) =
    (λ more. subst (λ (k : ℕ). k < length chain
    → c.next-comp.result ≡ next_of (get_or (row_on priced (get_or chain p 0) (get_or c.args.self.now k [])) c.loop-place.comp None))
    (sym next) c.next-comp.ensures more) in (
      subst (λ (k : ℕ). put_along (drop k chain) (path_from (drop k rows) c.next-comp.result) c.set.new.self
          ≡ put_along chain (path_from rows c.args.begin) c.args.choice.now) next
          (ap (put_along (drop (suc p) chain) (path_from (drop (suc p) rows) c.next-comp.result)) picks
          ∙ path_more priced chain c.args.self.now p c.loop-place.comp c.next-comp.result c.loop-place.choice c.loop-place-test.true
          c.requires.rows follows
          ∙ c.loop-place.invariant.0),
      ap length picks ∙ length-set c.loop-place.choice (get_or chain p 0) c.loop-place.comp ∙ c.loop-place.invariant.1,
    )
