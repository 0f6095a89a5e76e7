-- The sums of the members of a set are put for a trip, one after the other.
use Rattle.std.proofs.Common.{◌≡◌, ℕ, zero, suc, ◌+◌, ◌-◌, ◌*◌, ◌/◌, ◌%◌, ◌^◌, ◌<◌, ◌≤◌, Bool, true, false, eqb, List, [], length, get_or}
use Rattle.std.proofs.Common.{refl, sym, ap, ◌∙◌, subst, arith, ℤ, inl, inr}
use Rattle.std.proofs.lemmas.Bool.{cases_eq, cases_lt}
use Rattle.std.proofs.Math.Nat.{zero-div}
use Rattle.std.specs.Prelude.{slice_index}
use Rattle.timetable.specs.Compositions.{compositions_of, composition_at}
use Rattle.timetable.specs.Day.{Day}
use Rattle.price_bound.specs.declared.credits.UnitSums.{UnitSums}
use Rattle.price_bound.specs.CellSizes.{IsSmall, most_units_price}
use Rattle.price_bound.specs.Credits.{AreByType, AreMemberSums, AreMembersPut, AreRowsBut, AreSumsOf, AreSumsPut, HaveSumRoom, IsSumAt}
use Rattle.price_bound.specs.Credits.{put_in, sum_in}
use Rattle.price_bound.specs.PriceTables.{HasSize, amount_at}
use Rattle.price_bound.proofs.Crediting.{others_more, put_beside, put_here, put_size}
use Rattle.price_bound.specs.RowValues.{TellsMembers}
use Rattle.price_bound.proofs.FrontSums.{sum_of_comp_small}
use Rattle.price_bound.proofs.RowValues.{halved}

-- a row that is summed has the sums of all members of a set
pub all_summed : (day : Day) (amounts : List ℤ) (member : ℕ → Bool) (row : List ℤ) → AreSumsOf day amounts row
    → AreMemberSums day amounts member (length (compositions_of day)) row
all_summed day amounts member row are c below listed is = record { value = are.sums.values c listed; small = are.sums.small c listed }

-- ---- members

module _ (day : Day) (t : ℕ) (table : List (List ℤ)) (size : HasSize (length day.trips) (suc (length (compositions_of day))) table)
    (known : t < length day.trips) (amounts : List ℤ) (member : ℕ → Bool) where
  abbrev columns : ℕ
  columns = suc (length (compositions_of day))

  -- the sum of a member more
  pub member_put : (comp : ℕ) (x : ℤ) → comp < length (compositions_of day) → x ≡ sum_in amounts (composition_at day comp) → IsSmall most_units_price x
      → AreMemberSums day amounts member comp (get_or table t [])
      → AreMemberSums day amounts member (suc comp) (get_or (put_in t comp x table) t [])
  member_put comp x inside is small done c lt listed has = elim (cases_eq c comp) [
    | inl same ↦ subst (λ (k : ℕ). IsSumAt day amounts k (get_or (put_in t comp x table) t [])) (sym same) (record {
      value = put_here (length day.trips) columns table size t comp x known (omega (arith, inside)) ∙ is;
      small = subst (IsSmall most_units_price) (sym (put_here (length day.trips) columns table size t comp x known (omega (arith, inside)))) small;
    })
    | inr differ ↦
        let before : IsSumAt day amounts c (get_or table t []) = done c (omega (arith, lt, differ)) listed has in
        let beside : amount_at (put_in t comp x table) t c ≡ amount_at table t c = put_beside (length day.trips) columns table size t comp x known c differ in
        record {
          value = beside ∙ before.value;
          small = subst (IsSmall most_units_price) (sym beside) before.small;
        }
  ]

-- those between have no member
pub member_on : (day : Day) (amounts : List ℤ) (member : ℕ → Bool) (row : List ℤ) (from to : ℕ) → AreMemberSums day amounts member from row
    → ((k : ℕ) → from ≤ k → k < to → k < length (compositions_of day) → member k ≡ false) → AreMemberSums day amounts member to row
member_on day amounts member row from to done none c lt listed is = elim (cases_lt c from) [
  | inl before ↦ done c before listed is
  | inr after ↦ absurd (let no : true ≡ false = sym is ∙ none c after lt listed in cc)
]

-- ---- of a trip

module _ (day : Day) (gives takes : List ℤ) (t : ℕ) (member : ℕ → Bool) (sums : UnitSums) where
  -- none is put yet
  pub none_put : HaveSumRoom day sums → AreMembersPut day gives takes t member 0 sums sums
  none_put room = record {
    room = room;
    summed = refl;
    credits = λ c lt listed is. absurd (omega (arith, lt));
    debits = λ c lt listed is. absurd (omega (arith, lt));
    other_credits = λ other differ. refl;
    other_debits = λ other differ. refl;
  }

  -- up to a later number, where those between are no members
  pub members_on : (from to : ℕ) (new : UnitSums) → AreMembersPut day gives takes t member from sums new
      → ((k : ℕ) → from ≤ k → k < to → k < length (compositions_of day) → member k ≡ false)
      → AreMembersPut day gives takes t member to sums new
  members_on from to new done none = record {
    room = done.room;
    summed = done.summed;
    credits = member_on day gives member (get_or new.credits t []) from to done.credits none;
    debits = member_on day takes member (get_or new.debits t []) from to done.debits none;
    other_credits = done.other_credits;
    other_debits = done.other_debits;
  }

  -- one more
  pub members_more : (comp : ℕ) (before new : UnitSums) → t < length day.trips → comp < length (compositions_of day) → AreByType day gives → AreByType day takes
      → AreMembersPut day gives takes t member comp sums before → AreSumsPut day gives takes t comp before new
      → AreMembersPut day gives takes t member (suc comp) sums new
  members_more comp before new known inside by_gives by_takes done put =
      let credit : ℤ = sum_in gives (composition_at day comp) in
      let debit : ℤ = sum_in takes (composition_at day comp) in
      let credits_room : HasSize (length day.trips) (suc (length (compositions_of day))) before.credits = done.room.credits in
      let debits_room : HasSize (length day.trips) (suc (length (compositions_of day))) before.debits = done.room.debits in
      record {
        room = record {
          credits = subst (HasSize (length day.trips) (suc (length (compositions_of day)))) (sym put.credits)
              (put_size (length day.trips) (suc (length (compositions_of day))) before.credits credits_room t comp credit);
          debits = subst (HasSize (length day.trips) (suc (length (compositions_of day)))) (sym put.debits)
              (put_size (length day.trips) (suc (length (compositions_of day))) before.debits debits_room t comp debit);
          summed = ap length put.summed ∙ done.room.summed;
        };
        summed = put.summed ∙ done.summed;
        credits = subst (λ (table : List (List ℤ)). AreMemberSums day gives member (suc comp) (get_or table t [])) (sym put.credits)
            (member_put day t before.credits credits_room known gives member comp credit inside refl
            (sum_of_comp_small gives day comp inside by_gives.sized by_gives.small) done.credits);
        debits = subst (λ (table : List (List ℤ)). AreMemberSums day takes member (suc comp) (get_or table t [])) (sym put.debits)
            (member_put day t before.debits debits_room known takes member comp debit inside refl
            (sum_of_comp_small takes day comp inside by_takes.sized by_takes.small) done.debits);
        other_credits = subst (AreRowsBut t sums.credits) (sym put.credits)
            (others_more (length day.trips) (suc (length (compositions_of day))) before.credits sums.credits t comp credit credits_room done.other_credits);
        other_debits = subst (AreRowsBut t sums.debits) (sym put.debits)
            (others_more (length day.trips) (suc (length (compositions_of day))) before.debits sums.debits t comp debit debits_room done.other_debits);
      }

-- ---- bits

-- the bits of a word of a set tell of compositions
pub word_tells : (member : ℕ → Bool) (words : List ℕ) (place : ℕ)
    → ((comp : ℕ) → member comp ≡ eqb (slice_index words (comp / 64) / 2 ^ (comp % 64) % 2) 1) → TellsMembers member (place * 64) (slice_index words place)
word_tells member words place bits bit lt =
    let word : (place * 64 + bit) / 64 ≡ place = omega (arith, lt) in
    let rest : (place * 64 + bit) % 64 ≡ bit = omega (arith, lt) in
    bits (place * 64 + bit)
    ∙ ap (λ (k : ℕ). eqb (slice_index words k / 2 ^ ((place * 64 + bit) % 64) % 2) 1) word
    ∙ ap (λ (k : ℕ). eqb (slice_index words place / 2 ^ k % 2) 1) rest

-- where nothing is left of a word, nothing is left of it after more bits
nothing_on : (word bit more : ℕ) → word / 2 ^ bit ≡ 0 → word / 2 ^ (more + bit) ≡ 0
nothing_on word bit zero none =
    let same : 0 + bit ≡ bit = omega arith in
    ap (λ (k : ℕ). word / 2 ^ k) same ∙ none
nothing_on word bit (suc more) none =
    let up : suc more + bit ≡ suc (more + bit) = omega arith in
    ap (λ (k : ℕ). word / 2 ^ k) up ∙ sym (halved word (more + bit)) ∙ ap (λ (w : ℕ). w / 2) (nothing_on word bit more none) ∙ zero-div 2

-- then its further bits tell of no members
pub none_left : (member : ℕ → Bool) (begin word comp : ℕ) → TellsMembers member begin word → begin ≤ comp → word / 2 ^ (comp - begin) ≡ 0
    → (k : ℕ) → comp ≤ k → k < begin + 64 → member k ≡ false
none_left member begin word comp tells from none k past to =
    let place : begin + (k - begin) ≡ k = omega (arith, from, past) in
    let bits : k - comp + (comp - begin) ≡ k - begin = omega (arith, from, past) in
    let nothing : word / 2 ^ (k - begin) ≡ 0 = subst (λ (n : ℕ). word / 2 ^ n ≡ 0) bits (nothing_on word (comp - begin) (k - comp) none) in
    ap member (sym place) ∙ tells (k - begin) (omega (arith, from, past, to)) ∙ ap (λ (d : ℕ). eqb (d % 2) 1) nothing
