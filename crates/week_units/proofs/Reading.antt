-- What is read of lists.
use Rattle.std.proofs.Common.{◌≡◌, ℕ, zero, suc, ◌+◌, ◌<◌, List, [], ◌∷◌, ◌++◌, Bool, Some, true, false, drop, get_or, length, take, refl, sym, ap, ◌∙◌, subst, arith, inl, inr, slice_get}
use Rattle.std.specs.Prelude.{◌==◌, ◌&&◌, if◌then◌else◌, option_map, unwrap_or}
use Rattle.std.proofs.lemmas.Bool.{cases_eq, cond-false, cond-true, eq-eqb, and_from, and_right, ne_eqb}
use Rattle.std.proofs.lemmas.List.{append-nil, drop_all, take_all, take_more}
use Rattle.std.proofs.lemmas.Option.{get_or_from_slice_get, slice_get_read, slice_get_within}
use Rattle.rules.specs.declared.records.Unit as unit
use Rattle.timetable.specs.Day.{Units}
use Rattle.timetable.specs.Lists.{count_below}
use Rattle.timetable.specs.Renumbering.{is_at, kth_number, unit_after}
use Rattle.week_units.specs.Listed.{units_listed}

-- one entry more
pub take_next : {X : Type 0} (xs : List X) (k : ℕ) (x : X) → slice_get xs k ≡ Some x → take (k + 1) xs ≡ take k xs ++ x ∷ []
take_next xs k x at = take_more xs k x (slice_get_within xs k x at) ∙ ap (λ y. take k xs ++ y ∷ []) (get_or_from_slice_get xs k x x at)

-- what was lent in whole is what came back
pub came_back : {X : Type 0} (xs ys : List X) (n : ℕ) → n ≡ length ys → length xs ≡ length ys → take n (xs ++ drop (length xs) ys) ≡ xs
came_back xs ys n many same =
    ap (λ rest. take n (xs ++ rest)) (drop_all (length xs) ys (omega arith)) ∙ ap (take n) (append-nil xs) ∙ take_all n xs (omega arith)

-- the type and the station of a unit that is read
pub type_read : (us : List unit.Unit) (u : ℕ) (x : unit.Unit) → u < length us → x ≡ get_or us u x → x.unit_type ≡ (units_listed us).unit_type u
type_read us u x lt is = sym (ap (λ o. unwrap_or (option_map (λ y. y.unit_type) o) 0) (slice_get_read us (length us) u x refl lt is))

pub home_read : (us : List unit.Unit) (u : ℕ) (x : unit.Unit) → u < length us → x ≡ get_or us u x → x.home ≡ (units_listed us).home u
home_read us u x lt is = sym (ap (λ o. unwrap_or (option_map (λ y. y.home) o) 0) (slice_get_read us (length us) u x refl lt is))

-- no later unit has as few before it
pub stays_found : (units : Units) (s m before k n : ℕ) → is_at units s m k ≡ true → count_below (is_at units s m) k ≡ before → k < n → (unit_after units s m before n ≡ k) × (before < count_below (is_at units s m) n)
stays_found units s m before k zero here many lt = absurd (omega arith)
stays_found units s m before k (suc n) here many lt = elim (cases_eq k n) [
  | inl is ↦ subst (λ (v : ℕ). (unit_after units s m before (suc v) ≡ k) × (before < count_below (is_at units s m) (suc v))) is (
    cond-true {A = ℕ} (is_at units s m k && (count_below (is_at units s m) k == before)) k (unit_after units s m before k) (and_from _ _ here (eq-eqb (count_below (is_at units s m) k) before many)),
    let one = cond-true {A = ℕ} (is_at units s m k) 1 0 here in omega arith,
  )
  | inr past ↦
      let (so, more) = stays_found units s m before k n here many (omega arith) in (
        cond-false {A = ℕ} (is_at units s m n && (count_below (is_at units s m) n == before)) n (unit_after units s m before n) (and_right (is_at units s m n) (count_below (is_at units s m) n == before) (ne_eqb (count_below (is_at units s m) n) before (λ e. absurd (omega arith)))) ∙ so,
        omega arith,
      )
]

-- the number that is found is the k-th
pub kth_read : (own others : List unit.Unit) (u s m before found : ℕ) → s ≡ (units_listed own).home u → m ≡ (units_listed own).unit_type u → before ≡ count_below (is_at (units_listed own) s m) u
    → found ≡ unit_after (units_listed others) s m before (length others) → found ≡ kth_number (units_listed own) (units_listed others) u
unfolding kth_number
kth_read own others u s m before found home kind many is =
    is
    ∙ ap (λ (n : ℕ). unit_after (units_listed others) s m n (length others)) many
    ∙ ap (λ (p : ℕ). unit_after (units_listed others) p m (count_below (is_at (units_listed own) p m) u) (length others)) home
    ∙ ap (λ (p : ℕ). unit_after (units_listed others) ((units_listed own).home u) p (count_below (is_at (units_listed own) ((units_listed own).home u) p) u) (length others)) kind

-- a test counted once is passed
pub one_is_true : (b : Bool) (n : ℕ) → n ≡ (if b then 1 else 0) → n ≡ 1 → b ≡ true
one_is_true true n is one = refl
one_is_true false n is one = absurd (omega arith)
