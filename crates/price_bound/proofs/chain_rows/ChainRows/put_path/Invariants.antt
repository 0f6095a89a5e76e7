-- What is left of the path goes on the trips that are left.
use Rattle.std.proofs.Common.{◌≡◌, length, drop}
use Rattle.price_bound.specs.CellRows.{chain_rows, put_along}
use Rattle.price_bound.specs.Paths.{path_from}
use Rattle.price_bound.specs.Pricing.{priced_by}
use Rattle.price_bound.proofs.chain_rows.ChainRows.put_path.Given as goal

abbrev pub invariant-loop-place : goal.invariant-loop-place
invariant-loop-place l =
    (put_along (drop l.place l.chain) (path_from (drop l.place (chain_rows (priced_by l.pricing) l.chain)) l.comp) l.choice
    ≡ put_along l.chain (path_from (chain_rows (priced_by l.pricing) l.chain) l.fn.begin) l.fn.choice)
    × (length l.choice ≡ length l.fn.choice)
