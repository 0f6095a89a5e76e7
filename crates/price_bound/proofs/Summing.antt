-- Sums over the units of a list, read off the tables of prices.
use Rattle.std.proofs.Common.{◌≡◌, ℕ, ◌+◌, ◌-◌, ◌*◌, ◌<◌, ◌≤◌, List, [], ◌∷◌, length, get_or, true, refl, sym, ap, ◌∙◌, subst}
use Rattle.std.proofs.Common.{arith, ℤ, pos, ◌+ℤ◌, ◌-ℤ◌, take, drop, length-take, length-drop}
use Rattle.std.specs.Prelude.{nat_lt}
use Rattle.std.specs.List.{All}
use Rattle.std.proofs.lemmas.Bool.{and_parts, ltb-true}
use Rattle.std.proofs.lemmas.Int.{ints}
use Rattle.std.proofs.lemmas.List.{drop_all, take-append-drop}
use Rattle.std.proofs.lemmas.List.Elements.{All-nil, All-cons, All-head, All-tail, All-take, All-drop}
use Rattle.rules.specs.declared.records.UnitType.{UnitType}
use Rattle.compositions.specs.Composition.{are_types}
use Rattle.rules.specs.declared.records.End.{End}
use Rattle.rules.specs.declared.records.End.TheVariants as at
use Rattle.timetable.specs.Day.{Day, from_of, leaves, to_of, ready_at}
use Rattle.branch_tree.specs.declared.multipliers.Entry.{Entry}
use Rattle.branch_tree.specs.Entries.{AreMultipliers}
use Rattle.branch_tree.specs.IntSums.{int_sum}
use Rattle.price_bound.specs.declared.price_tables.PriceTables.{PriceTables}
use Rattle.price_bound.specs.EdgeValues.{came, stayed}
use Rattle.price_bound.specs.PriceTables.{ArePrices}
use Rattle.price_bound.specs.CellSizes.{IsSmall, most_cost, most_price, most_units_price}
use Rattle.price_bound.specs.YardPrices.{giving, taking, yard_price}
use Rattle.price_bound.proofs.Adding.{sum_small}
use Rattle.price_bound.proofs.Filling.{are_few, yard_small}
use Rattle.price_bound.proofs.IntLaws.{sum_append}

-- the types of a composition are below the number of types
pub types_below : (types : List UnitType) (ms : List ℕ) → are_types types ms ≡ true → All (λ m. m < length types) ms
types_below types [] known = All-nil (λ m. m < length types)
types_below types (m ∷ ms) known =
    let both = and_parts (nat_lt m (length types)) (are_types types ms) known in
    All-cons (λ m. m < length types) m ms (ltb-true m (length types) both.0) (types_below types ms both.1)

-- so are those that came
pub came_below : (n : ℕ) (end : End) (units : ℕ) (ms : List ℕ) → All (λ m. m < n) ms → All (λ m. m < n) (came end units ms)
came_below n at.None units ms known = All-nil (λ m. m < n)
came_below n at.Rear units ms known = All-drop (λ m. m < n) (length ms - units) ms known
came_below n at.Front units ms known = All-take (λ m. m < n) units ms known

pub came_few : (end : End) (units : ℕ) (ms : List ℕ) (most : ℕ) → length ms ≤ most → length (came end units ms) ≤ most
came_few at.None units ms most few = omega arith
came_few at.Rear units ms most few = omega (arith, few, length-drop (length ms - units) ms)
came_few at.Front units ms most few = omega (arith, few, length-take units ms)

-- where none were coupled, none came
pub none_came : (end : End) (units : ℕ) (ms : List ℕ) → units ≡ 0 → came end units ms ≡ []
none_came at.None units ms none = refl
none_came at.Rear units ms none = drop_all (length ms - units) ms (omega (arith, none))
none_came at.Front units ms none = ap (λ (n : ℕ). take n ms) none

-- what departs is what stayed and what came
pub parted : (f : ℕ → ℤ) (end : End) (units : ℕ) (ms : List ℕ)
    → int_sum f ms ≡ int_sum f (stayed end units ms) +ℤ int_sum f (came end units ms)
parted f at.None units ms = none (int_sum f ms)
  where
    none : (a : ℤ) → a ≡ a +ℤ pos 0
    none a = omega (arith, ints)
parted f at.Rear units ms =
    ap (int_sum f) (sym (take-append-drop (length ms - units) ms)) ∙ sum_append f (take (length ms - units) ms) (drop (length ms - units) ms)
parted f at.Front units ms =
    ap (int_sum f) (sym (take-append-drop units ms)) ∙ sum_append f (take units ms) (drop units ms)
    ∙ exchanged (int_sum f (take units ms)) (int_sum f (drop units ms))
  where
    exchanged : (a b : ℤ) → a +ℤ b ≡ b +ℤ a
    exchanged a b = omega (arith, ints)

-- and no more units than depart
pub parted_long : (end : End) (units : ℕ) (ms : List ℕ) → length (stayed end units ms) + length (came end units ms) ≤ length ms
parted_long at.None units ms = omega arith
parted_long at.Rear units ms = omega (arith, length-take (length ms - units) ms, length-drop (length ms - units) ms)
parted_long at.Front units ms = omega (arith, length-take units ms, length-drop units ms)

-- the price of units is small, where that of one is
pub units_small : (f : ℕ → ℤ) → ((m : ℕ) → IsSmall most_price (f m)) → (ms : List ℕ) → IsSmall (length ms * most_price) (int_sum f ms)
units_small f each ms = sum_small f most_price ms (λ k d lt. each (get_or ms k d))

sums_on : (f g : ℕ → ℤ) (n : ℕ) (ms : List ℕ) → ((m : ℕ) → m < n → f m ≡ g m) → All (λ m. m < n) ms → int_sum f ms ≡ int_sum g ms
sums_on f g n [] each known = refl
sums_on f g n (m ∷ ms) each known =
    ap (λ (v : ℤ). v +ℤ int_sum f ms) (each m (All-head (λ k. k < n) m ms known))
    ∙ ap (λ (v : ℤ). g m +ℤ v) (sums_on f g n ms each (All-tail (λ k. k < n) m ms known))

module _ (day : Day) (entries : List Entry) (tables : PriceTables) (prices : ArePrices day entries tables) (t : ℕ) (below : t < length day.trips) where
  pub taking_is : (ms : List ℕ) → All (λ m. m < length day.types) ms → int_sum (λ m. get_or (get_or tables.takes t []) m (pos 0)) ms ≡ taking day entries t ms
  taking_is ms known = sums_on (λ m. get_or (get_or tables.takes t []) m (pos 0)) (yard_price day entries (from_of day t) (leaves day t)) (length day.types) ms
      (λ m lt. prices.takes t m below lt) known

  pub giving_is : (ms : List ℕ) → All (λ m. m < length day.types) ms → int_sum (λ m. get_or (get_or tables.gives t []) m (pos 0)) ms ≡ giving day entries t ms
  giving_is ms known = sums_on (λ m. get_or (get_or tables.gives t []) m (pos 0)) (yard_price day entries (to_of day t) (ready_at day t)) (length day.types) ms
      (λ m lt. prices.gives t m below lt) known

  module _ (multipliers : AreMultipliers entries) where
    pub takes_small : (m : ℕ) → m < length (get_or tables.takes t []) → IsSmall most_price (get_or (get_or tables.takes t []) m (pos 0))
    takes_small m lt =
        subst (IsSmall most_price) (sym (prices.takes t m below (omega (arith, lt, prices.sized.takes.widths t below))))
        (yard_small day entries (from_of day t) (leaves day t) m (are_few day entries multipliers))

    pub gives_small : (m : ℕ) → m < length (get_or tables.gives t []) → IsSmall most_price (get_or (get_or tables.gives t []) m (pos 0))
    gives_small m lt =
        subst (IsSmall most_price) (sym (prices.gives t m below (omega (arith, lt, prices.sized.gives.widths t below))))
        (yard_small day entries (to_of day t) (ready_at day t) m (are_few day entries multipliers))

-- what a turn adds, by its parts: the prices of what departs are those of what stayed and those of what came
pub turn_is : (cost takes stay_takes came_takes from_gives gives stay_gives came_gives paid before after coupled credits cost_left whole : ℤ)
    → takes ≡ stay_takes +ℤ came_takes → gives ≡ stay_gives +ℤ came_gives → paid ≡ cost → before ≡ from_gives → after ≡ gives
    → coupled ≡ came_takes -ℤ came_gives → credits ≡ before -ℤ after → cost_left ≡ paid -ℤ credits → whole ≡ cost_left +ℤ coupled
    → whole ≡ cost +ℤ (takes -ℤ stay_takes) -ℤ (from_gives -ℤ stay_gives)
turn_is cost takes stay_takes came_takes from_gives gives stay_gives came_gives paid before after coupled credits cost_left whole
    e f g h i j k l m = omega (arith, ints, e, f, g, h, i, j, k, l, m)

-- and it is small: the units of the composition that departs either stayed or came
pub turn_small : (cost before after coupled stay_gives came_gives came_takes credits cost_left whole : ℤ) (a b : ℕ)
    → a + b ≤ most_units_price → IsSmall most_cost cost → IsSmall most_units_price before → IsSmall a stay_gives
    → IsSmall b came_takes → after ≡ stay_gives +ℤ came_gives → coupled ≡ came_takes -ℤ came_gives → credits ≡ before -ℤ after
    → cost_left ≡ cost -ℤ credits → whole ≡ cost_left +ℤ coupled → IsSmall 13000000000000000 whole
turn_small cost before after coupled stay_gives came_gives came_takes credits cost_left whole a b few p q r s e f g h i = record {
  above = omega (arith, ints, few, p.above, q.below, r.above, s.above, e, f, g, h, i);
  below = omega (arith, ints, few, p.below, q.above, r.below, s.below, e, f, g, h, i);
}
