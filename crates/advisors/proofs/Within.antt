-- The value of a list of multipliers at an index is within their limit.
use Rattle.std.proofs.Common.{ℕ, ◌≤◌, List, [], ◌∷◌, All, Bool, true, false, ◌==◌, if◌then◌else◌, unsigned_abs, arith}
use Rattle.std.proofs.lemmas.List.Elements.{All-head, All-tail}
use Rattle.rail_base.specs.declared.limits.TheConstants.{MAX_MULTIPLIER}
use Rattle.branch_tree.specs.declared.multipliers.Entry.{Entry}
use Rattle.branch_tree.specs.Entries.{value_at}

pub value-within : (entries : List Entry) (index : ℕ) → All (λ entry. unsigned_abs entry.value ≤ MAX_MULTIPLIER) entries → unsigned_abs (value_at entries index) ≤ MAX_MULTIPLIER
value-within [] index within = omega arith
value-within (entry ∷ entries) index within =
    of (index == entry.index) (All-head (λ e. unsigned_abs e.value ≤ MAX_MULTIPLIER) entry entries within)
    (value-within entries index (All-tail (λ e. unsigned_abs e.value ≤ MAX_MULTIPLIER) entry entries within))
  where
    of : (b : Bool) → unsigned_abs entry.value ≤ MAX_MULTIPLIER → unsigned_abs (value_at entries index) ≤ MAX_MULTIPLIER →
        unsigned_abs (if b then entry.value else value_at entries index) ≤ MAX_MULTIPLIER
    of true here rest = here
    of false here rest = rest
