-- How often advisors are asked in a whole search.
use Rattle.std.proofs.Common.{◌≡◌, ℕ, ◌+◌, ◌*◌, ◌≤◌, ◌^◌, List, [], ◌∷◌, All, Bool, true, false, if◌then◌else◌, Option}
use Rattle.std.proofs.Common.{None, refl, sym, subst, arith}
use Rattle.std.proofs.Math.Nat.{mul-le-mul_left}
use Rattle.branch_tree.specs.declared.tree.Node.{Node}
use Rattle.branch_tree.specs.Claims.{CostedPicks, is_open}
use Rattle.branch_tree.specs.Trees.{cut_of}
use Rattle.search.specs.Questions.{AreAsked, AreOnlyAsked, AreTheSame, MayBeAsked, in_rounds}
use Rattle.search.specs.Ends.{made_or_open}
use Rattle.search.proofs.Asking.{are_asked_again, are_asked_within, in_rounds_less, in_rounds_sum, in_rounds_zero}
use Rattle.search.proofs.Growing.{leaf_made}

module _ {A : Type 0} (asked : A → ℕ) (has_quit : A → Bool) where
  -- once for a leaf that is open
  pub asked_if_open : (rounds : ℕ) (opens : Bool) (first last : List A) → AreAsked first last asked has_quit 0 rounds → (opens ≡ true → AreAsked first last asked has_quit (in_rounds rounds 1) rounds) →
      AreAsked first last asked has_quit (in_rounds rounds (if opens then 1 else 0)) rounds
  asked_if_open rounds true first last some once = once refl
  asked_if_open rounds false first last some once = subst (λ (times : ℕ). AreAsked first last asked has_quit times rounds) (sym (in_rounds_zero rounds)) some

  pub asked_for_leaf : (rounds : ℕ) (best : Option CostedPicks) (node : Node) (first last : List A) → cut_of node ≡ None → AreAsked first last asked has_quit 0 rounds →
      (is_open best node ≡ true → AreAsked first last asked has_quit (in_rounds rounds 1) rounds) → AreAsked first last asked has_quit (in_rounds rounds (made_or_open best (node ∷ []))) rounds
  asked_for_leaf rounds best node first last leaf some once =
      subst (λ (times : ℕ). AreAsked first last asked has_quit (in_rounds rounds times) rounds) (sym (leaf_made node leaf best)) (asked_if_open rounds (is_open best node) first last some once)

  -- for two nodes
  pub asked_for_both : (rounds times more : ℕ) (first middle last : List A) → AreAsked first middle asked has_quit (in_rounds rounds times) rounds → AreAsked middle last asked has_quit (in_rounds rounds more) rounds →
      AreAsked first last asked has_quit (in_rounds rounds (times + more)) (2 * rounds)
  asked_for_both rounds times more first middle last one two =
      are_asked_within asked has_quit (in_rounds rounds times + in_rounds rounds more) (rounds + rounds) (in_rounds rounds (times + more)) (2 * rounds) first last (omega (arith, in_rounds_sum rounds times more)) (omega arith)
      (are_asked_again asked has_quit (in_rounds rounds times) rounds (in_rounds rounds more) rounds first middle last one two)

  -- after one branching more
  pub asked_on : (rounds made old new times : ℕ) (first before after : List A) → AreAsked first before asked has_quit (in_rounds rounds old) (rounds * (2 * made + 1)) → new ≤ old + times →
      AreAsked before after asked has_quit (in_rounds rounds times) (2 * rounds) → AreAsked first after asked has_quit (in_rounds rounds new) (rounds * (2 * (made + 1) + 1))
  asked_on rounds made old new times first before after one few two =
      are_asked_within asked has_quit (in_rounds rounds old + in_rounds rounds times) (rounds * (2 * made + 1) + 2 * rounds) (in_rounds rounds new) (rounds * (2 * (made + 1) + 1)) first after
      (omega (arith, in_rounds_less rounds new (old + times) few, in_rounds_sum rounds old times)) (omega arith)
      (are_asked_again asked has_quit (in_rounds rounds old) (rounds * (2 * made + 1)) (in_rounds rounds times) (2 * rounds) first before after one two)

  -- after want of memory in the next branching
  pub asked_at_most : (rounds made grant least : ℕ) (first before after : List A) → made + 1 ≤ grant → AreAsked first before asked has_quit least (rounds * (2 * made + 1)) →
      AreAsked before after asked has_quit 0 (2 * rounds) → AreAsked first after asked has_quit 0 (rounds * (2 * grant + 1))
  asked_at_most rounds made grant least first before after few one two =
      are_asked_within asked has_quit (least + 0) (rounds * (2 * made + 1) + 2 * rounds) 0 (rounds * (2 * grant + 1)) first after (omega arith) (omega (arith, mul-le-mul_left rounds few))
      (are_asked_again asked has_quit least (rounds * (2 * made + 1)) 0 (2 * rounds) first before after one two)

  -- there is room for all rounds
  pub room_for : (most : ℕ) (advisors : List A) → All (λ advisor. asked advisor ≤ 2 ^ 63) advisors → most ≤ 1000000 → MayBeAsked advisors asked most
  room_for most advisors few within = λ place none below. omega (arith, few place none below, within)

pub few_rounds : (rounds made : ℕ) → rounds ≤ 100 → made ≤ 4000 → rounds * (2 * made + 1) + 2 * rounds ≤ 1000000
few_rounds rounds made few many =
    let within : 2 * made + 1 ≤ 8001 = omega arith in
    omega (arith, mul-le-mul_left rounds within)

-- the advisors of a search were only asked, and within what is granted
pub only_within_grant : {A : Type 0} (identity asked : A → ℕ) (has_quit : A → Bool) (rounds made grant least : ℕ) (first last : List A) → made ≤ grant → AreTheSame first last identity →
    AreAsked first last asked has_quit least (rounds * (2 * made + 1)) → AreOnlyAsked first last identity asked has_quit (rounds * (2 * grant + 1))
only_within_grant identity asked has_quit rounds made grant least first last few same is = record {
  same = same;
  times = are_asked_within asked has_quit least (rounds * (2 * made + 1)) 0 (rounds * (2 * grant + 1)) first last (omega arith) (omega (arith, mul-le-mul_left rounds few)) is;
}
