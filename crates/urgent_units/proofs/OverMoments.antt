-- How many minutes are over after a moment, read off the minute before it; and held units, leg by leg.
use Rattle.std.proofs.Common.{◌≡◌, ℕ, zero, suc, ◌+◌, ◌-◌, ◌≤◌, ◌<◌, min, List, [], ◌∷◌, length, drop, get_or, refl, sym, ap, ◌∙◌, arith, inl, inr}
use Rattle.std.specs.Prelude.{◌==◌, ◌&&◌, nat_le, nat_lt}
use Rattle.std.proofs.Math.Seq.{drop-cons}
use Rattle.std.proofs.lemmas.Bool.{cases_lt, cond-true, cond-false, le-ltb, lt-ltb}
use Rattle.urgent_units.specs.declared.legs.Leg.{Leg}
use Rattle.urgent_units.specs.Held.{is_held_from}
use Rattle.urgent_units.specs.Moments.{over_after}

pub over_none : (over : ℕ) (ms : List ℕ) (k : ℕ) → min k (length ms) ≡ 0 → over_after over ms k ≡ over
over_none over [] k none = refl
over_none over (m ∷ ms) zero none = refl
over_none over (m ∷ ms) (suc k) none = absurd (omega (arith, none))

pub over_some : (over : ℕ) (ms : List ℕ) (k n d : ℕ) → n ≡ min k (length ms) → 0 < n → over_after over ms k ≡ get_or ms (n - 1) d + 1
over_some over [] k n d is some = absurd (omega (arith, is, some))
over_some over (m ∷ ms) zero n d is some = absurd (omega (arith, is, some))
over_some over (m ∷ ms) (suc k) n d is some = elim (cases_lt 1 n) [
  | inl more ↦ over_some (m + 1) ms k (n - 1) d (omega (arith, is, some)) (omega (arith, more)) ∙ ap (λ (x : ℕ). x + 1) (shift more)
  | inr one ↦ (
      let first : n - 1 ≡ 0 = omega (arith, one) in
      over_none (m + 1) ms k (omega (arith, is, some, one)) ∙ ap (λ (j : ℕ). get_or (m ∷ ms) j d + 1) (sym first))
]
  where
    shift : 1 < n → get_or ms (n - 1 - 1) d ≡ get_or (m ∷ ms) (n - 1) d
    shift more = (
        let next : suc (n - 1 - 1) ≡ n - 1 = omega (arith, more) in
        ap (λ (j : ℕ). get_or (m ∷ ms) j d) next)

-- ---- held units

module _ (at since : ℕ) (legs : List Leg) (i : ℕ) (leg : Leg) (s over : ℕ) (below : i < length legs) (is : leg ≡ get_or legs i leg) where
  parts : drop i legs ≡ leg ∷ drop (suc i) legs
  parts = drop-cons legs i leg below ∙ ap (λ (l : Leg). l ∷ drop (suc i) legs) (sym is)

  pub held_step : leg.departs < over → is_held_from at since (drop i legs) s over ≡ is_held_from leg.to (leg.ready + 1) (drop (i + 1) legs) s over
  held_step gone = (
      let next : suc i ≡ i + 1 = omega arith in
      ap (λ (ls : List Leg). is_held_from at since ls s over) parts
      ∙ cond-true (nat_lt leg.departs over) (is_held_from leg.to (leg.ready + 1) (drop (suc i) legs) s over) (at == s && nat_le since over) (lt-ltb leg.departs over gone)
      ∙ ap (λ (j : ℕ). is_held_from leg.to (leg.ready + 1) (drop j legs) s over) next)

  pub held_stop : over ≤ leg.departs → is_held_from at since (drop i legs) s over ≡ (at == s && nat_le since over)
  held_stop stays =
      ap (λ (ls : List Leg). is_held_from at since ls s over) parts
      ∙ cond-false (nat_lt leg.departs over) (is_held_from leg.to (leg.ready + 1) (drop (suc i) legs) s over) (at == s && nat_le since over) (le-ltb leg.departs over stays)
