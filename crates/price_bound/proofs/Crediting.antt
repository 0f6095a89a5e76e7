-- Tables that are filled trip by trip with sums have the credits and the debits.
use Rattle.std.proofs.Common.{◌≡◌, ◌≢◌, ℕ, suc, ◌+◌, ◌<◌, Bool, List, [], length, set, get_or, Option, refl, sym, ap, ◌∙◌, subst}
use Rattle.std.proofs.Common.{arith, ℤ, pos, inl, inr, length-set, unwrap_or}
use Rattle.std.specs.List.{All}
use Rattle.std.proofs.lemmas.Bool.{cases_eq}
use Rattle.std.proofs.lemmas.List.{get_or-set_same, get_or-set_other}
use Rattle.timetable.specs.Compositions.{compositions_of, composition_at, greatest_platform}
use Rattle.timetable.specs.Day.{Day}
use Rattle.timetable.proofs.Picking.{types_known}
use Rattle.branch_tree.specs.declared.multipliers.Entry.{Entry}
use Rattle.branch_tree.specs.Entries.{AreMultipliers}
use Rattle.price_bound.specs.declared.credits.Summed.{Summed}
use Rattle.price_bound.specs.declared.credits.UnitSums.{UnitSums}
use Rattle.price_bound.specs.declared.price_tables.PriceTables.{PriceTables}
use Rattle.price_bound.specs.Credits.{AreAllByType, AreRowsBut, AreSumsBelow, AreSumsFor}
use Rattle.price_bound.specs.Credits.{AreSumsPriced, AreTripSums, IsRowSummed, IsSumAt, IsTripPut}
use Rattle.price_bound.specs.Credits.{IsUnitPrice, is_whole, put_in}
use Rattle.price_bound.specs.YardPrices.{giving, taking}
use Rattle.price_bound.specs.PriceTables.{ArePrices, HasSize, amount_at}
use Rattle.price_bound.proofs.Steps.{entry_below}
use Rattle.price_bound.proofs.Summing.{gives_small, giving_is, takes_small, taking_is, types_below}

-- ---- one amount changed

module _ (rows columns : ℕ) (table : List (List ℤ)) (size : HasSize rows columns table) (r0 c0 : ℕ) (x : ℤ) where
  abbrev row : List ℤ
  row = set (get_or table r0 []) c0 x

  row_here : (r : ℕ) → r < rows → r ≡ r0 → get_or (put_in r0 c0 x table) r [] ≡ row
  row_here r below same = subst (λ (k : ℕ). get_or (put_in r0 c0 x table) k [] ≡ row) (sym same)
      (get_or-set_same table r0 row [] (omega (arith, below, same, size.height)))

  pub row_other : (r : ℕ) → r ≢ r0 → get_or (put_in r0 c0 x table) r [] ≡ get_or table r []
  row_other r differ = get_or-set_other table r0 r row [] differ

  pub put_size : HasSize rows columns (put_in r0 c0 x table)
  put_size = record {
    height = length-set table r0 row ∙ size.height;
    widths = λ r below. elim (cases_eq r r0) [
      | inl same ↦ ap length (row_here r below same) ∙ length-set (get_or table r0 []) c0 x ∙ size.widths r0 (omega (arith, below, same))
      | inr differ ↦ ap length (row_other r differ) ∙ size.widths r below
    ];
  }

  module _ (below : r0 < rows) where
    pub put_here : c0 < columns → amount_at (put_in r0 c0 x table) r0 c0 ≡ x
    put_here lt = ap (λ (xs : List ℤ). get_or xs c0 (pos 0)) (row_here r0 below refl)
        ∙ get_or-set_same (get_or table r0 []) c0 x (pos 0) (omega (arith, lt, size.widths r0 below))

    pub put_beside : (c : ℕ) → c ≢ c0 → amount_at (put_in r0 c0 x table) r0 c ≡ amount_at table r0 c
    put_beside c differ = ap (λ (xs : List ℤ). get_or xs c (pos 0)) (row_here r0 below refl)
        ∙ get_or-set_other (get_or table r0 []) c0 c x (pos 0) differ

-- ---- rows

pub others_more : (rows columns : ℕ) (table old : List (List ℤ)) (t comp : ℕ) (sum : ℤ) → HasSize rows columns table
    → AreRowsBut t old table → AreRowsBut t old (put_in t comp sum table)
others_more rows columns table old t comp sum size same other differ =
    row_other rows columns table size t comp sum other differ ∙ same other differ

pub summed_size : (day : Day) (amounts : List ℤ) (t : ℕ) (table new : List (List ℤ))
    → HasSize (length day.trips) (suc (length (compositions_of day))) table → IsRowSummed day amounts t table new
    → HasSize (length day.trips) (suc (length (compositions_of day))) new
summed_size day amounts t table new size is = record {
  height = is.height ∙ size.height;
  widths = λ r below. elim (cases_eq r t) [
    | inl same ↦ ap (λ (k : ℕ). length (get_or new k [])) same ∙ is.row.long
    | inr differ ↦ ap length (is.others r differ) ∙ size.widths r below
  ];
}

-- one row more
pub below_more : (day : Day) (region : List (List Bool)) (summed new_summed : List Summed) (amounts table new : List (List ℤ)) (trip : ℕ)
    → AreSumsBelow day region summed amounts trip table
    → AreSumsFor day region new_summed (get_or amounts trip []) trip (get_or new trip [])
    → ((other : ℕ) → other ≢ trip → is_whole new_summed other ≡ is_whole summed other) → AreRowsBut trip table new
    → AreSumsBelow day region new_summed amounts (trip + 1) new
below_more day region summed new_summed amounts table new trip done here same_summed others t lt = elim (cases_eq t trip) [
  | inl same ↦ subst (λ (k : ℕ). AreSumsFor day region new_summed (get_or amounts k []) k (get_or new k [])) (sym same) here
  | inr differ ↦
      let row : get_or table t [] ≡ get_or new t [] = sym (others t differ) in
      let before : AreSumsFor day region summed (get_or amounts t []) t (get_or table t []) = done t (omega (arith, lt, differ)) in
      record {
        whole = λ c below is. subst (IsSumAt day (get_or amounts t []) c) row (before.whole c below (sym (same_summed t differ) ∙ is));
        members = λ c below is. subst (IsSumAt day (get_or amounts t []) c) row (before.members c below is);
      }
]

-- one trip more
pub trips_more : (day : Day) (region : List (List Bool)) (gives takes : List (List ℤ)) (trip : ℕ) (sums new : UnitSums)
    → AreTripSums day region gives takes trip sums → IsTripPut day region (get_or gives trip []) (get_or takes trip []) trip sums new
    → AreTripSums day region gives takes (trip + 1) new
trips_more day region gives takes trip sums new done put = record {
  room = put.room;
  credits = below_more day region sums.summed.items new.summed.items gives sums.credits new.credits trip done.credits put.credits put.other_summed put.other_credits;
  debits = below_more day region sums.summed.items new.summed.items takes sums.debits new.debits trip done.debits put.debits put.other_summed put.other_debits;
}

-- ---- the credits and the debits

pub known : (day : Day) (c : ℕ) → c < length (compositions_of day) → All (λ m. m < length day.types) (composition_at day c)
known day c below =
    let (ms, at) = entry_below (compositions_of day) c below in
    subst (All (λ (m : ℕ). m < length day.types)) (sym (ap (λ (o : Option (List ℕ)). unwrap_or o []) at))
    (types_below day.types ms (types_known day.types (greatest_platform day) c ms at))

module _ (day : Day) (region : List (List Bool)) (entries : List Entry) (tables : PriceTables) (sums : UnitSums) (prices : ArePrices day entries tables)
    (are : AreTripSums day region tables.gives tables.takes (length day.trips) sums) where
  credit_at : (t c : ℕ) → t < length day.trips → c < length (compositions_of day) → IsSumAt day (get_or tables.gives t []) c (get_or sums.credits t [])
      → IsUnitPrice day (giving day entries) sums.credits t c
  credit_at t c lt below is = record {
    value = is.value ∙ giving_is day entries tables prices t lt (composition_at day c) (known day c below);
    small = is.small;
  }

  debit_at : (t c : ℕ) → t < length day.trips → c < length (compositions_of day) → IsSumAt day (get_or tables.takes t []) c (get_or sums.debits t [])
      → IsUnitPrice day (taking day entries) sums.debits t c
  debit_at t c lt below is = record {
    value = is.value ∙ taking_is day entries tables prices t lt (composition_at day c) (known day c below);
    small = is.small;
  }

  pub sums_priced : AreSumsPriced day region entries sums
  sums_priced = record {
    summed = are.room.summed;
    credits = record {
      sized = are.room.credits;
      whole = λ t c lt below is. credit_at t c lt below ((are.credits t lt).whole c below is);
      members = λ t c lt below is. credit_at t c lt below ((are.credits t lt).members c below is);
    };
    debits = record {
      sized = are.room.debits;
      whole = λ t c lt below is. debit_at t c lt below ((are.debits t lt).whole c below is);
      members = λ t c lt below is. debit_at t c lt below ((are.debits t lt).members c below is);
    };
  }

-- the prices of units of each type are small
module _ (day : Day) (entries : List Entry) (tables : PriceTables) (prices : ArePrices day entries tables) (multipliers : AreMultipliers entries) where
  pub gives_by_type : AreAllByType day tables.gives
  gives_by_type = record {
    sized = prices.sized.gives;
    small = λ t lt. gives_small day entries tables prices t (omega (arith, lt, prices.sized.gives.height)) multipliers;
  }

  pub takes_by_type : AreAllByType day tables.takes
  takes_by_type = record {
    sized = prices.sized.takes;
    small = λ t lt. takes_small day entries tables prices t (omega (arith, lt, prices.sized.takes.height)) multipliers;
  }
