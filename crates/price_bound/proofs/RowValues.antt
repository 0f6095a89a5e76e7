-- Rows that are made by the members of a set of compositions, word by word.
use Rattle.std.proofs.Common.{◌≡◌, ◌≢◌, ℕ, suc, ◌+◌, ◌-◌, ◌*◌, ◌/◌, ◌%◌, ◌^◌, ◌<◌, ◌≤◌, ◌⊎◌, List, length, get_or, set, length-set, Bool, false, Option, None}
use Rattle.std.proofs.Common.{ℤ, pos, sym, ap, ◌∙◌, subst, arith, inl, inr, eqb, map, min, w64}
use Rattle.std.proofs.lemmas.Bool.{cases_eq, cases_lt}
use Rattle.std.proofs.lemmas.Nat.{leading_le, leading_length}
use Rattle.std.proofs.lemmas.Nat.Bits.{bit_at_above, bit_at-trailing_zeros}
use Rattle.std.specs.Int.{leading_zeros, trailing_zeros}
use Rattle.std.proofs.lemmas.List.{get_or-map, get_or-set_other, get_or-set_same, length-map}
use Rattle.std.proofs.Math.Nat.{div-div-eq-div-mul, pow-suc, zero-div}
use Rattle.std.specs.Prelude.{slice_index}
use Rattle.price_bound.specs.declared.cells.Cell.{Cell}
use Rattle.price_bound.specs.declared.row_values.CompRange.{CompRange}
use Rattle.price_bound.specs.CellRows.{AreWithin, IsHeld, bare, cell_in}
use Rattle.price_bound.specs.HeldValues.{no_value}
use Rattle.price_bound.specs.PassValues.{value_at}
use Rattle.price_bound.specs.RowValues.{AreFilled, AreMembersIn, HasCells, HaveNone, TellsMembers}
use Rattle.price_bound.proofs.CellValues.{none_is}

module _ (n : ℕ) (cell : ℕ → Option Cell) (IsFew : Option Cell → Type 0) where
  -- a row of which the values are out is filled up to the first composition
  pub filled_from : (values : List ℤ) → length values ≡ n → ((k : ℕ) → k < length values → value_at values k ≡ no_value)
      → AreFilled n cell IsFew 0 values
  filled_from values long out = record {
    long = long;
    cells = λ k lt below. absurd (omega (arith, lt));
    few = λ k lt below. absurd (omega (arith, lt));
    held = λ k below. inr (out k (omega (arith, below, long)));
    rest = λ k past below. out k (omega (arith, below, long));
  }

  -- so it is up to any later one, where those between have no cell
  pub filled_on : (comp to : ℕ) (values : List ℤ) → AreFilled n cell IsFew comp values → comp ≤ to → IsFew None
      → ((k : ℕ) → comp ≤ k → k < to → k < n → cell k ≡ None) → AreFilled n cell IsFew to values
  filled_on comp to values done on few none = record {
    long = done.long;
    cells = λ k lt below. elim (cases_lt k comp) [
      | inl before ↦ done.cells k before below
      | inr after ↦ ap cell_in (done.rest k after below) ∙ sym (ap bare (none k after lt below))
    ];
    few = λ k lt below. elim (cases_lt k comp) [
      | inl before ↦ done.few k before below
      | inr after ↦ subst (λ (value : ℤ). IsFew (cell_in value)) (sym (done.rest k after below)) few
    ];
    held = done.held;
    rest = λ k past below. done.rest k (omega (arith, past, on)) below;
  }

  -- and up to the next one, when its value is put
  pub filled_put : (comp : ℕ) (values : List ℤ) (value : ℤ) → AreFilled n cell IsFew comp values → comp < n → cell_in value ≡ bare (cell comp)
      → IsHeld value → IsFew (cell_in value) → AreFilled n cell IsFew (suc comp) (set values comp value)
  filled_put comp values value done inside is held few = record {
    long = length-set values comp value ∙ done.long;
    cells = λ k lt below. elim (cases_eq k comp) [
      | inl same ↦ subst (λ (i : ℕ). cell_in (value_at (set values comp value) i) ≡ bare (cell i)) (sym same) (ap cell_in put ∙ is)
      | inr differ ↦ ap cell_in (other k differ) ∙ done.cells k (omega (arith, lt, differ)) below
    ];
    few = λ k lt below. elim (cases_eq k comp) [
      | inl same ↦ subst (λ (i : ℕ). IsFew (cell_in (value_at (set values comp value) i))) (sym same) (subst (λ (v : ℤ). IsFew (cell_in v)) (sym put) few)
      | inr differ ↦ subst (λ (v : ℤ). IsFew (cell_in v)) (sym (other k differ)) (done.few k (omega (arith, lt, differ)) below)
    ];
    held = λ k below. elim (cases_eq k comp) [
      | inl same ↦ subst (λ (i : ℕ). IsHeld (value_at (set values comp value) i)) (sym same) (subst IsHeld (sym put) held)
      | inr differ ↦ subst IsHeld (sym (other k differ)) (done.held k below)
    ];
    rest = λ k past below. other k (λ e. omega (arith, past, e)) ∙ done.rest k (omega (arith, past)) below;
  }
    where
      put : value_at (set values comp value) comp ≡ value
      put = get_or-set_same values comp value (pos 0) (omega (arith, inside, done.long))

      other : (k : ℕ) → k ≢ comp → value_at (set values comp value) k ≡ value_at values k
      other k differ = get_or-set_other values comp k value (pos 0) differ

  -- a row of which the values below a composition are put, whatever stands in the others
  pub record ArePut (comp : ℕ) (values : List ℤ) : Type 0 where
    pub long : length values ≡ n
    pub cells : (k : ℕ) → k < comp → k < n → cell_in (value_at values k) ≡ bare (cell k)
    pub few : (k : ℕ) → k < comp → k < n → IsFew (cell_in (value_at values k))
    pub held : (k : ℕ) → k < comp → k < n → IsHeld (value_at values k)

  -- one value more is put
  pub put_more : (comp : ℕ) (values : List ℤ) (value : ℤ) → ArePut comp values → comp < n → cell_in value ≡ bare (cell comp)
      → IsHeld value → IsFew (cell_in value) → ArePut (suc comp) (set values comp value)
  put_more comp values value done inside is held few = record {
    long = length-set values comp value ∙ done.long;
    cells = λ k lt below. elim (cases_eq k comp) [
      | inl same ↦ subst (λ (i : ℕ). cell_in (value_at (set values comp value) i) ≡ bare (cell i)) (sym same) (ap cell_in put ∙ is)
      | inr differ ↦ ap cell_in (other k differ) ∙ done.cells k (omega (arith, lt, differ)) below
    ];
    few = λ k lt below. elim (cases_eq k comp) [
      | inl same ↦ subst (λ (i : ℕ). IsFew (cell_in (value_at (set values comp value) i))) (sym same) (subst (λ (v : ℤ). IsFew (cell_in v)) (sym put) few)
      | inr differ ↦ subst (λ (v : ℤ). IsFew (cell_in v)) (sym (other k differ)) (done.few k (omega (arith, lt, differ)) below)
    ];
    held = λ k lt below. elim (cases_eq k comp) [
      | inl same ↦ subst (λ (i : ℕ). IsHeld (value_at (set values comp value) i)) (sym same) (subst IsHeld (sym put) held)
      | inr differ ↦ subst IsHeld (sym (other k differ)) (done.held k (omega (arith, lt, differ)) below)
    ];
  }
    where
      put : value_at (set values comp value) comp ≡ value
      put = get_or-set_same values comp value (pos 0) (omega (arith, inside, done.long))

      other : (k : ℕ) → k ≢ comp → value_at (set values comp value) k ≡ value_at values k
      other k differ = get_or-set_other values comp k value (pos 0) differ

  -- a row of which all values are put is filled
  pub put_filled : (values : List ℤ) → ArePut n values → AreFilled n cell IsFew n values
  put_filled values done = record {
    long = done.long;
    cells = done.cells;
    few = done.few;
    held = λ k below. done.held k below below;
    rest = λ k past below. absurd (omega (arith, past, below));
  }

  -- the row of the values has the cells
  pub filled_cells : (values : List ℤ) → AreFilled n cell IsFew n values → HasCells n cell IsFew (map cell_in values)
  filled_cells values done = record {
    long = length-map values cell_in ∙ done.long;
    cells = λ k below. read k below ∙ done.cells k below below;
    few = λ k below. subst IsFew (sym (read k below)) (done.few k below below);
  }
    where
      read : (k : ℕ) → k < n → get_or (map cell_in values) k None ≡ cell_in (value_at values k)
      read k below = get_or-map cell_in values k (pos 0) None (omega (arith, below, done.long))

  -- those of a set that is within a range have no value outside of it
  pub filled_within : (range : CompRange) (member : ℕ → Bool) (values : List ℤ) → AreFilled n cell IsFew n values → HaveNone member cell
      → AreMembersIn range member n → range.begin ≤ n → range.end ≤ n → AreWithin range values
  filled_within range member values done none in_range begin most = record {
    begin = omega (arith, begin, done.long);
    most = omega (arith, most, done.long);
    before = λ k lt below. out k (omega (arith, below, done.long)) (inl lt);
    after = λ k past below. out k (omega (arith, below, done.long)) (inr past);
  }
    where
      out : (k : ℕ) → k < n → (k < range.begin) ⊎ (range.end ≤ k) → value_at values k ≡ no_value
      out k below outside = none_is (value_at values k) (done.held k below) (done.cells k below below ∙ ap bare (none k (in_range k below outside)))

-- ---- bits

-- what is left of a word after one bit more
pub halved : (word bit : ℕ) → word / 2 ^ bit / 2 ≡ word / 2 ^ suc bit
halved word bit = div-div-eq-div-mul word (2 ^ bit) 2 ∙ ap (λ (d : ℕ). word / d) (sym (pow-suc 2 bit))

-- a word of 0 tells of no member
pub no_members : (member : ℕ → Bool) (begin : ℕ) → TellsMembers member begin 0 → (k : ℕ) → begin ≤ k → k < begin + 64 → member k ≡ false
no_members member begin tells k from to =
    let place : begin + (k - begin) ≡ k = omega (arith, from) in
    ap member (sym place) ∙ tells (k - begin) (omega (arith, from, to)) ∙ ap (λ (d : ℕ). eqb (d % 2) 1) (zero-div (2 ^ (k - begin)))

-- a bit tells of a composition
pub bit_tells : (member : ℕ → Bool) (begin word comp left : ℕ) → TellsMembers member begin word → begin ≤ comp → comp < begin + 64
    → left ≡ word / 2 ^ (comp - begin) → member comp ≡ eqb (left % 2) 1
bit_tells member begin word comp left tells from to is =
    let place : begin + (comp - begin) ≡ comp = omega (arith, from) in
    ap member (sym place) ∙ tells (comp - begin) (omega (arith, from, to)) ∙ ap (λ (d : ℕ). eqb (d % 2) 1) (sym is)

-- ---- the range of the members

-- a word tells of no member below its lowest bit, nor above its highest
pub word_outside : (member : ℕ → Bool) (word begin : ℕ) → 0 < word → word < 2 ^ 64 → TellsMembers member begin word
    → (k : ℕ) → begin ≤ k → k < begin + 64
    → (k < begin + trailing_zeros w64 word) ⊎ (begin + 64 - leading_zeros w64 word ≤ k) → member k ≡ false
word_outside member word begin some fits tells k from lt outside =
    let low : (bit : ℕ) → bit < trailing_zeros w64 word → word / 2 ^ bit % 2 ≡ 0 = (bit_at-trailing_zeros w64 word some fits).2 in
    let top : (m : ℕ) × (leading_zeros w64 word + m ≡ 64) × (word < 2 ^ m) × (2 ^ m ≤ 2 * word + 1) = leading_length 64 word fits in
    let sum : leading_zeros w64 word + top.0 ≡ 64 = top.1 in
    elim outside [
      | inl less ↦ told (low (k - begin) (omega (arith, from, less)))
      | inr past ↦ told (bit_at_above word top.0 (k - begin) top.2 (omega (arith, past, sum)))
    ]
  where
    told : word / 2 ^ (k - begin) % 2 ≡ 0 → member k ≡ false
    told none =
        let place : begin + (k - begin) ≡ k = omega (arith, from) in
        ap member (sym place) ∙ tells (k - begin) (omega (arith, from, lt)) ∙ ap (λ (bit : ℕ). eqb bit 1) none

-- so its lowest bit and its highest one bound the members
pub members_in_word : (range : CompRange) (from to : ℕ) (member : ℕ → Bool) (word begin : ℕ) → 0 < word → word < 2 ^ 64
    → from ≡ min range.begin (begin + trailing_zeros w64 word) → to ≡ begin + 64 - leading_zeros w64 word
    → AreMembersIn range member begin → TellsMembers member begin word
    → (k : ℕ) → k < begin + 64 → (k < from) ⊎ (to ≤ k) → member k ≡ false
members_in_word range from to member word begin some fits first last done tells k lt outside = elim (cases_lt k begin) [
  | inl before ↦ elim outside [
    | inl less ↦ done k before (inl (omega (arith, less, first)))
    | inr past ↦ absurd (omega (arith, before, past, last, leading_le 64 word))
  ]
  | inr here ↦ elim outside [
    | inl less ↦ word_outside member word begin some fits tells k here lt (inl (omega (arith, less, first)))
    | inr past ↦ word_outside member word begin some fits tells k here lt (inr (omega (arith, past, last)))
  ]
]

-- the bits of words tell of the members, word by word
pub word_tells : (member : ℕ → Bool) (words : List ℕ) (place : ℕ)
    → ((comp : ℕ) → member comp ≡ eqb (slice_index words (comp / 64) / 2 ^ (comp % 64) % 2) 1)
    → TellsMembers member (place * 64) (slice_index words place)
word_tells member words place tells bit below =
    let at : (place * 64 + bit) / 64 ≡ place = omega (arith, below) in
    let rest : (place * 64 + bit) % 64 ≡ bit = omega (arith, below) in
    tells (place * 64 + bit)
    ∙ ap (λ (k : ℕ). eqb (slice_index words k / 2 ^ ((place * 64 + bit) % 64) % 2) 1) at
    ∙ ap (λ (k : ℕ). eqb (slice_index words place / 2 ^ k % 2) 1) rest
