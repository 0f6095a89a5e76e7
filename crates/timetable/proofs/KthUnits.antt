-- The k-th units of a type at a station are among the others where no fewer of these stand there, and a renumbering where
-- as many do.
use Rattle.std.proofs.Common.{◌≡◌, ℕ, zero, suc, ◌+◌, ◌<◌, ◌≤◌, Bool, true, false, refl, sym, ap, ◌∙◌, subst, arith, inl}
use Rattle.std.proofs.Common.{inr}
use Rattle.std.specs.Prelude.{◌==◌, ◌&&◌}
use Rattle.std.proofs.lemmas.Bool.{cases_Bool, cases_eq, cases_lt, cond-true, cond-false, eq-eqb, eqb-true, and_parts}
use Rattle.std.proofs.lemmas.Bool.{and_from, false≢true}
use Rattle.timetable.specs.Day.{Units}
use Rattle.timetable.specs.Lists.{count_below}
use Rattle.timetable.specs.Renumbering.{AreAmong, is_at, standing_at, unit_after, before_unit, kth_number}
use Rattle.timetable.specs.Renumbering.{KthUnitsAreAmong, KthUnitsAreRenumbered}
use Rattle.timetable.proofs.Reindexing.{given_few}

-- ---- how many numbers pass a test

adds : (p : ℕ → Bool) (n : ℕ) → p n ≡ true → count_below p (suc n) ≡ count_below p n + 1
adds p n passes = let one = cond-true {A = ℕ} (p n) 1 0 passes in omega arith

-- one that passes makes more of them
counts_more : (p : ℕ → Bool) (u n : ℕ) → p u ≡ true → u < n → count_below p u < count_below p n
counts_more p u zero passes lt = absurd (omega arith)
counts_more p u (suc n) passes lt = elim (cases_eq u n) [
  | inl e ↦
      let last = adds p n (subst (λ (k : ℕ). p k ≡ true) e passes) in
      let same = ap (λ (k : ℕ). count_below p k) e in
      omega arith
  | inr other ↦ let rest = counts_more p u n passes (omega arith) in omega arith
]

-- ---- the unit after so many

module _ (units : Units) (s m before : ℕ) where
  record IsAfter (n u : ℕ) : Type 0 where
    known : u < n
    there : is_at units s m u ≡ true
    after : count_below (is_at units s m) u ≡ before

  is_after : (n : ℕ) → before < count_below (is_at units s m) n → IsAfter n (unit_after units s m before n)
  is_after zero more = absurd (omega arith)
  is_after (suc n) more = elim (cases_Bool (is_at units s m n && (count_below (is_at units s m) n == before))) [
    | inl here ↦
        let both = and_parts (is_at units s m n) (count_below (is_at units s m) n == before) here in
        subst (IsAfter (suc n)) (sym (cond-true {A = ℕ} (is_at units s m n && (count_below (is_at units s m) n == before)) n (unit_after units s m before n) here))
        (record { known = omega arith; there = both.0; after = eqb-true (count_below (is_at units s m) n) before both.1 })
    | inr not_here ↦
        subst (IsAfter (suc n)) (sym (cond-false {A = ℕ} (is_at units s m n && (count_below (is_at units s m) n == before)) n (unit_after units s m before n) not_here))
        (elim (cases_lt before (count_below (is_at units s m) n)) [
          | inl enough ↦
              let earlier = is_after n enough in
              let lt = earlier.known in
              record { known = omega arith; there = earlier.there; after = earlier.after }
          | inr few ↦ absurd (last_one (is_at units s m n) refl few not_here)
        ])
  ]
    where
      last_one : (b : Bool) → is_at units s m n ≡ b → count_below (is_at units s m) n ≤ before → is_at units s m n && (count_below (is_at units s m) n == before) ≡ false → ⊥
      last_one true e few not_here =
          let one = adds (is_at units s m) n e in
          false≢true (sym not_here ∙ and_from _ _ e (eq-eqb (count_below (is_at units s m) n) before (omega arith)))
      last_one false e few not_here = let none = cond-false {A = ℕ} (is_at units s m n) 1 0 e in omega arith

-- ---- the k-th of some units, and the k-th of others

module _ (units others : Units) (enough : (s m : ℕ) → standing_at units s m ≤ standing_at others s m) where
  is_like : (u : ℕ) → is_at units (units.home u) (units.unit_type u) u ≡ true
  is_like u = and_from _ _ (eq-eqb (units.home u) (units.home u) refl) (eq-eqb (units.unit_type u) (units.unit_type u) refl)

  kth_is : (u : ℕ) → u < units.count → IsAfter others (units.home u) (units.unit_type u) (before_unit units u) others.count (kth_number units others u)
  unfolding kth_number
  kth_is u lt =
      let fewer = counts_more (is_at units (units.home u) (units.unit_type u)) u units.count (is_like u) lt in
      let least = enough (units.home u) (units.unit_type u) in
      is_after others (units.home u) (units.unit_type u) (before_unit units u) others.count (omega arith)

  kth_home : (u : ℕ) → u < units.count → others.home (kth_number units others u) ≡ units.home u
  kth_home u lt =
      let both = and_parts (others.home (kth_number units others u) == units.home u) (others.unit_type (kth_number units others u) == units.unit_type u) (kth_is u lt).there in
      eqb-true (others.home (kth_number units others u)) (units.home u) both.0

  kth_type : (u : ℕ) → u < units.count → others.unit_type (kth_number units others u) ≡ units.unit_type u
  kth_type u lt =
      let both = and_parts (others.home (kth_number units others u) == units.home u) (others.unit_type (kth_number units others u) == units.unit_type u) (kth_is u lt).there in
      eqb-true (others.unit_type (kth_number units others u)) (units.unit_type u) both.1

  -- as many come before its number as before the unit
  kth_before : (u : ℕ) → u < units.count → before_unit others (kth_number units others u) ≡ before_unit units u
  kth_before u lt =
      ap (λ (s : ℕ). count_below (is_at others s (others.unit_type (kth_number units others u))) (kth_number units others u)) (kth_home u lt)
      ∙ ap (λ (m : ℕ). count_below (is_at others (units.home u) m) (kth_number units others u)) (kth_type u lt)
      ∙ (kth_is u lt).after

  -- two units of a type at a station have not as many before them
  apart : (u v : ℕ) → units.home u ≡ units.home v → units.unit_type u ≡ units.unit_type v → before_unit units u ≡ before_unit units v → u < v → ⊥
  apart u v home kind before lt =
      let more = counts_more (is_at units (units.home u) (units.unit_type u)) u v (is_like u) lt in
      let same = ap (λ (s : ℕ). count_below (is_at units s (units.unit_type u)) v) home ∙ ap (λ (m : ℕ). count_below (is_at units (units.home v) m) v) kind in
      omega arith

  kth_once : (u v : ℕ) → u < units.count → v < units.count → kth_number units others u ≡ kth_number units others v → u ≡ v
  kth_once u v lu lv e =
      let home = sym (kth_home u lu) ∙ ap others.home e ∙ kth_home v lv in
      let kind = sym (kth_type u lu) ∙ ap others.unit_type e ∙ kth_type v lv in
      let before = sym (kth_before u lu) ∙ ap (before_unit others) e ∙ kth_before v lv in
      elim (cases_eq u v) [
        | inl same ↦ same
        | inr differ ↦ elim (cases_lt u v) [
          | inl less ↦ absurd (apart u v home kind before less)
          | inr no_less ↦ absurd (apart v u (sym home) (sym kind) (sym before) (omega arith))
        ]
      ]

  kth_few : units.count ≤ others.count
  kth_few = given_few (kth_number units others) units.count others.count (λ u lt. (kth_is u lt).known) kth_once

  kth_among : AreAmong units others (kth_number units others)
  kth_among = record { known = λ u lt. (kth_is u lt).known; once = kth_once; unit_type = kth_type; home = kth_home }

pub kth_units_are_among : KthUnitsAreAmong
kth_units_are_among units others enough = record { among = kth_among units others enough; kth = kth_before units others enough }

pub kth_units_are_renumbered : KthUnitsAreRenumbered
kth_units_are_renumbered units others alike =
    let enough : (s m : ℕ) → standing_at units s m ≤ standing_at others s m = λ s m. let same = alike s m in omega arith in
    let few = kth_few units others enough in
    let others_few = kth_few others units (λ s m. let same = alike s m in omega arith) in
    record {
      renumbers = record { among = kth_among units others enough; count = omega arith };
      kth = kth_before units others enough;
    }
