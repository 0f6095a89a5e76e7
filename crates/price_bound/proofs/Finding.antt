-- What is found along the chains one after another, and how large it is.
use Rattle.std.proofs.Common.{◌≡◌, ℕ, zero, suc, ◌+◌, ◌*◌, ◌≤◌, List, [], ◌∷◌, ◌++◌, length, get_or, take, Bool, true}
use Rattle.std.proofs.Common.{false, cond, Option, Some, None, refl, subst, arith, ℤ, ◌+ℤ◌, slice_get}
use Rattle.std.specs.Prelude.{IfSome}
use Rattle.std.specs.List.{All}
use Rattle.std.proofs.lemmas.List.Elements.{All-append, All-cons, All-head, All-nil, All-tail}
use Rattle.rules.specs.declared.records.Link.{Link}
use Rattle.timetable.specs.Chains.{chain_from, chains_below, chains_of, follow, is_led_in, next_in}
use Rattle.timetable.specs.Day.{Day}
use Rattle.price_bound.specs.declared.cells.Cell.{Cell}
use Rattle.price_bound.specs.CellSizes.{AreSmallCells, IsSmall}
use Rattle.price_bound.specs.Paths.{begin_of, entered, least_from, lower_cell}
use Rattle.price_bound.proofs.Adding.{small_more, small_sum}
use Rattle.price_bound.proofs.ChainCells.{lower_small}

-- ---- a chain has no more trips than the day

abbrev HasFew : ℕ → List ℕ → Type 0
HasFew n chain = length chain ≤ n

follow_few : (next : ℕ → Option ℕ) (n : ℕ) (o : Option ℕ) → length (follow next n o) ≤ n
follow_few next zero o = omega arith
follow_few next (suc n) None = omega arith
follow_few next (suc n) (Some t) = omega (arith, follow_few next n (next t))

below_few : (links : List Link) (n t : ℕ) → All (HasFew n) (chains_below links n t)
below_few links n zero = All-nil (HasFew n)
below_few links n (suc t) = by (is_led_in links t) (below_few links n t)
  where
    by : (led : Bool) → All (HasFew n) (chains_below links n t)
        → All (HasFew n) (cond led (chains_below links n t) (chains_below links n t ++ chain_from links n t ∷ []))
    by true before = before
    by false before = All-append (HasFew n) (chains_below links n t) (chain_from links n t ∷ []) before
        (All-cons (HasFew n) (chain_from links n t) [] (follow_few (next_in links) n (Some t)) (All-nil (HasFew n)))

few_at : (n : ℕ) (lists : List (List ℕ)) (i : ℕ) (list : List ℕ) → All (HasFew n) lists → slice_get lists i ≡ Some list → length list ≤ n
few_at n [] i list each at = absurd (cc)
few_at n (x ∷ lists) zero list each at =
    let some : Some x ≡ Some list = at in
    let same : x ≡ list = cc in
    subst (HasFew n) same (All-head (HasFew n) x lists each)
few_at n (x ∷ lists) (suc i) list each at = few_at n lists i list (All-tail (HasFew n) x lists each) at

pub chain_few : (day : Day) (i : ℕ) (chain : List ℕ) → slice_get (chains_of day) i ≡ Some chain → length chain ≤ length day.trips
unfolding chains_of
chain_few day i chain at = few_at (length day.trips) (chains_below day.links (length day.trips) (length day.trips)) i chain
    (below_few day.links (length day.trips) (length day.trips)) at

-- ---- the begin of rows

pub begin_taken : (n : ℕ) (table : List (List (Option Cell))) → 1 ≤ n → begin_of (take n table) ≡ begin_of table
begin_taken zero table some = absurd (omega (arith, some))
begin_taken (suc n) [] some = refl
begin_taken (suc n) (row ∷ table) some = refl

least_small : (bound comp : ℕ) (best : Option Cell) (row : List (Option Cell)) → IfSome best (λ it. IsSmall bound it.value)
    → AreSmallCells bound row → IfSome (least_from comp best row) (λ it. IsSmall bound it.value)
least_small bound comp best [] least small = least
least_small bound comp best (cell ∷ row) least small =
    least_small bound (suc comp) (lower_cell best (entered comp cell)) row
    (lower_small bound best (entered comp cell) least (first cell (λ it at. small 0 it at))) (λ k it at. small (suc k) it at)
  where
    first : (o : Option Cell) → ((it : Cell) → o ≡ Some it → IsSmall bound it.value) → IfSome (entered comp o) (λ it. IsSmall bound it.value)
    first None each = tt
    first (Some it) each = each it refl

some_is : (bound : ℕ) (o : Option Cell) (it : Cell) → IfSome o (λ cell. IsSmall bound cell.value) → o ≡ Some it → IsSmall bound it.value
some_is bound None it small at = absurd (cc)
some_is bound (Some cell) it small at =
    let same : cell ≡ it = cc in
    subst (λ (c : Cell). IsSmall bound c.value) same small

pub begin_small : (bound : ℕ) (table : List (List (Option Cell))) (begin : Cell) → begin_of table ≡ Some begin
    → AreSmallCells bound (get_or table 0 []) → IsSmall bound begin.value
begin_small bound [] begin found small = absurd (cc)
begin_small bound (row ∷ table) begin found small = some_is bound (least_from 0 None row) begin (least_small bound 0 None row tt small) found

-- the values of so many chains
pub value_small : (i chain trips : ℕ) (value here : ℤ) → IsSmall (i * 20000000000000000000) value → chain ≤ trips → trips ≤ 400
    → IsSmall (chain * 21000000000000000) here → IsSmall ((i + 1) * 20000000000000000000) (value +ℤ here)
value_small i chain trips value here all few most small =
    small_more (i * 20000000000000000000 + chain * 21000000000000000) ((i + 1) * 20000000000000000000) (value +ℤ here) (omega (arith, few, most))
    (small_sum (i * 20000000000000000000) (chain * 21000000000000000) value here all small)
