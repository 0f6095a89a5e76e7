use Rattle.std.proofs.Common.{◌≡◌, ◌<◌, ◌≤◌, ◌-◌, ℕ, List, true, false, get_or, length}
use Rattle.compositions.specs.Catalogue.{comes_before}
use Rattle.compositions.proofs.catalogue.first_not_before.Given as goal

abbrev pub invariant-loop-low : goal.invariant-loop-low
invariant-loop-low l =
    (l.low ≤ l.high) ×
    (l.high ≤ length l.compositions) ×
    ((k : ℕ) (d : List ℕ) → k < l.low → comes_before (get_or l.compositions k d) l.composition ≡ true) ×
    ((d : List ℕ) → l.high < length l.compositions → comes_before (get_or l.compositions l.high d) l.composition ≡ false)

abbrev pub decreases-loop-low : goal.decreases-loop-low
decreases-loop-low l = l.high - l.low
