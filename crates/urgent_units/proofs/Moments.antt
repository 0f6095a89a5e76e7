-- Moments: the minutes of a station rise, and so does what is over after its moments.
use Rattle.std.proofs.Common.{◌≡◌, ℕ, zero, suc, ◌+◌, ◌≤◌, ◌<◌, Bool, true, false, List, [], ◌∷◌, length, refl, sym, ap, ◌∙◌, subst, arith, inl, inr, ◌⊎◌}
use Rattle.std.specs.Prelude.{if◌then◌else◌, nat_lt}
use Rattle.std.proofs.lemmas.Bool.{cases_Bool, cond-true, cond-false, lt-ltb, le-ltb}
use Rattle.inventory.specs.CountTable.{earlier}
use Rattle.urgent_units.specs.Moments.{over_after}

-- minutes that rise, none before a number
abbrev pub Rise : ℕ → List ℕ → Type 0
Rise over [] = Unit {0}
Rise over (m ∷ ms) = (over ≤ m) × Rise (m + 1) ms

-- one of the minutes
abbrev pub Among : ℕ → List ℕ → Type 0
Among d [] = ⊥
Among d (m ∷ ms) = (m ≡ d) ⊎ Among d ms

pub among_from : (over d : ℕ) (ms : List ℕ) → Rise over ms → Among d ms → over ≤ d
among_from over d [] rise among = absurd among
among_from over d (m ∷ ms) rise (inl is) = omega (arith, rise.0, is)
among_from over d (m ∷ ms) rise (inr later) = omega (arith, rise.0, among_from (m + 1) d ms rise.1 later)

pub over_from : (over : ℕ) (ms : List ℕ) (k : ℕ) → Rise over ms → over ≤ over_after over ms k
over_from over [] k rise = omega arith
over_from over (m ∷ ms) zero rise = omega arith
over_from over (m ∷ ms) (suc k) rise = omega (arith, rise.0, over_from (m + 1) ms k rise.1)

-- more moments, more minutes over
pub over_more : (over : ℕ) (ms : List ℕ) (j k : ℕ) → Rise over ms → j ≤ k → over_after over ms j ≤ over_after over ms k
over_more over [] j k rise le = omega arith
over_more over (m ∷ ms) zero k rise le = over_from over (m ∷ ms) k rise
over_more over (m ∷ ms) (suc j) zero rise le = absurd (omega (arith, le))
over_more over (m ∷ ms) (suc j) (suc k) rise le = over_more (m + 1) ms j k rise.1 (omega (arith, le))

-- and up to the last minute really more
pub over_less : (over : ℕ) (ms : List ℕ) (j k : ℕ) → Rise over ms → j < k → k ≤ length ms → over_after over ms j < over_after over ms k
over_less over [] j k rise less within = absurd (omega (arith, less, within))
over_less over (m ∷ ms) j zero rise less within = absurd (omega (arith, less))
over_less over (m ∷ ms) zero (suc k) rise less within = omega (arith, rise.0, over_from (m + 1) ms k rise.1)
over_less over (m ∷ ms) (suc j) (suc k) rise less within = over_less (m + 1) ms j k rise.1 (omega (arith, less)) (omega (arith, within))

start_over : (over : ℕ) (ms : List ℕ) → over_after over ms 0 ≡ over
start_over over [] = refl
start_over over (m ∷ ms) = refl

-- after the moment of one of the minutes this minute is over, and no later one
pub over_at_minute : (over d : ℕ) (ms : List ℕ) → Rise over ms → Among d ms → over_after over ms (suc (earlier d ms)) ≡ d + 1
over_at_minute over d [] rise among = absurd among
over_at_minute over d (m ∷ ms) rise (inl is) =
    let none : earlier d (m ∷ ms) ≡ 0 = cond-false (nat_lt m d) (suc (earlier d ms)) 0 (le-ltb m d (omega (arith, is))) in
    subst (λ (k : ℕ). over_after over (m ∷ ms) (suc k) ≡ d + 1) (sym none) (start_over (m + 1) ms ∙ ap (λ n. n + 1) is)
over_at_minute over d (m ∷ ms) rise (inr later) =
    let past = among_from (m + 1) d ms rise.1 later in
    let more : earlier d (m ∷ ms) ≡ suc (earlier d ms) = cond-true (nat_lt m d) (suc (earlier d ms)) 0 (lt-ltb m d (omega (arith, past))) in
    subst (λ (k : ℕ). over_after over (m ∷ ms) (suc k) ≡ d + 1) (sym more) (over_at_minute (m + 1) d ms rise.1 later)

pub minute_within : (over d : ℕ) (ms : List ℕ) → Rise over ms → Among d ms → suc (earlier d ms) ≤ length ms
minute_within over d [] rise among = absurd among
minute_within over d (m ∷ ms) rise (inl is) =
    let none : earlier d (m ∷ ms) ≡ 0 = cond-false (nat_lt m d) (suc (earlier d ms)) 0 (le-ltb m d (omega (arith, is))) in
    omega (arith, none)
minute_within over d (m ∷ ms) rise (inr later) =
    let past = among_from (m + 1) d ms rise.1 later in
    let more : earlier d (m ∷ ms) ≡ suc (earlier d ms) = cond-true (nat_lt m d) (suc (earlier d ms)) 0 (lt-ltb m d (omega (arith, past))) in
    omega (arith, more, minute_within (m + 1) d ms rise.1 later)

-- in a row of moments, from one in a cut to one that isn't, there is one whose next isn't
pub record IsLeft (is_in : ℕ → Bool) (j k : ℕ) : Type 0 where
  pub at : ℕ
  pub from : j ≤ at
  pub below : at < k
  pub here : is_in at ≡ true
  pub next : is_in (suc at) ≡ false

both : (b : Bool) → b ≡ true → b ≡ false → ⊥
both true is isnt = absurd cc
both false is isnt = absurd cc

pub some_left : (is_in : ℕ → Bool) (j n : ℕ) → is_in j ≡ true → is_in (j + n) ≡ false → IsLeft is_in j (j + n)
some_left is_in j zero here out = absurd (both (is_in j) here (subst (λ (k : ℕ). is_in k ≡ false) (omega arith) out))
some_left is_in j (suc n) here out =
    let same : suc j + n ≡ j + suc n = omega arith in
    elim (cases_Bool (is_in (suc j))) [
      | inr next ↦ record { at = j; from = omega arith; below = omega arith; here = here; next = next }
      | inl next ↦
          let later = some_left is_in (suc j) n next (subst (λ (k : ℕ). is_in k ≡ false) (sym same) out) in
          record { at = later.at; from = omega (arith, later.from); below = omega (arith, later.below, same); here = later.here; next = later.next }
    ]

-- no more minutes are before one than there are
pub earlier_within : (d : ℕ) (ms : List ℕ) → earlier d ms ≤ length ms
earlier_within d [] = omega arith
earlier_within d (m ∷ ms) = on (nat_lt m d) (earlier_within d ms)
  where
    on : (b : Bool) → earlier d ms ≤ length ms → (if b then suc (earlier d ms) else 0) ≤ suc (length ms)
    on true rest = omega (arith, rest)
    on false rest = omega arith
