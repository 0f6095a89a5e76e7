-- Weak duality: multipliers that fit price a solution at its cost or lower, so that priced values bound the costs of
-- solutions.
use Rattle.std.proofs.Common.{◌≡◌, ℕ, zero, suc, ◌*◌, ◌<◌, List, [], ◌∷◌, ℤ, pos, negsuc, ◌+ℤ◌, ◌*ℤ◌, ◌≤ℤ◌, ◌<ℤ◌, neg_ℤ}
use Rattle.std.proofs.Common.{sym, subst, arith, ⊎_elim}
use Rattle.std.proofs.lemmas.Bool.{cases_lt}
use Rattle.std.proofs.lemmas.Int.{ints}
use Rattle.std.proofs.lemmas.List.Elements.{All-head, All-tail}
use Rattle.branch_tree.specs.declared.multipliers.Entry.{Entry}
use Rattle.branch_tree.specs.declared.relaxation.Weight.TheVariants.{Cost, NoCost}
use Rattle.branch_tree.specs.Entries.{DoFit}
use Rattle.branch_tree.specs.Laws.{SolutionsArePricedLow, BoundsAreChainValues, ChainValuesAreOne, EmptyHasNoChainValue}
use Rattle.branch_tree.specs.Laws.{ChainValuesBound, EmptyHasNoSolution, RaysHaveNoSolution}
use Rattle.branch_tree.specs.Meanings.{Meanings, IsRelaxation, IsMet, priced, slack_sum}

-- the product of a number that is not negative and one that is not positive is not positive
neg-not_positive : (n : ℕ) → neg_ℤ (pos n) ≤ℤ pos 0
neg-not_positive zero = omega (arith, ints)
neg-not_positive (suc n) = omega (arith, ints)

product_low : (a b : ℤ) → pos 0 ≤ℤ a → b ≤ℤ pos 0 → (a *ℤ b) ≤ℤ pos 0
product_low (pos n) (pos zero) high low = omega (arith, ints)
product_low (pos n) (pos (suc m)) high low = absurd (omega (arith, ints, low))
product_low (pos n) (negsuc m) high low = neg-not_positive (n * suc m)
product_low (negsuc n) b high low = absurd (omega (arith, ints, high))

product_zero : (a : ℤ) → (a *ℤ pos 0) ≤ℤ pos 0
product_zero (pos n) = omega (arith, ints)
product_zero (negsuc n) = neg-not_positive (suc n * 0)

-- the term of a multiplier that fits is not positive in a solution
term_low : (problem : Meanings) (picks : List ℕ) (entry : Entry) → IsMet problem picks entry.index → (entry.index < problem.free_from → pos 0 ≤ℤ entry.value) →
    (entry.value *ℤ problem.slack picks entry.index) ≤ℤ pos 0
term_low problem picks entry met fits =
    ⊎_elim (λ below. product_low entry.value (problem.slack picks entry.index) (fits below) met.not_positive)
    (λ free. subst (λ slack. (entry.value *ℤ slack) ≤ℤ pos 0) (sym (met.none free)) (product_zero entry.value))
    (cases_lt entry.index problem.free_from)

slack_sum-low : (problem : Meanings) (picks : List ℕ) (multipliers : List Entry) → IsRelaxation problem → problem.IsSolution picks → DoFit problem.indices problem.free_from multipliers →
    slack_sum problem multipliers picks ≤ℤ pos 0
slack_sum-low problem picks [] relaxation solution fits = omega (arith, ints)
slack_sum-low problem picks (entry ∷ entries) relaxation solution fits =
    let here : (entry.index < problem.indices) × (entry.index < problem.free_from → pos 0 ≤ℤ entry.value) =
    All-head (λ e. (e.index < problem.indices) × (e.index < problem.free_from → pos 0 ≤ℤ e.value)) entry entries fits in
    let term : (entry.value *ℤ problem.slack picks entry.index) ≤ℤ pos 0 = term_low problem picks entry (relaxation.solution_met picks entry.index solution here.0) here.1 in
    let rest : slack_sum problem entries picks ≤ℤ pos 0 = slack_sum-low problem picks entries relaxation solution
    (All-tail (λ e. (e.index < problem.indices) × (e.index < problem.free_from → pos 0 ≤ℤ e.value)) entry entries fits) in
    sum_low (entry.value *ℤ problem.slack picks entry.index) (slack_sum problem entries picks) term rest
  where
    sum_low : (a b : ℤ) → a ≤ℤ pos 0 → b ≤ℤ pos 0 → (a +ℤ b) ≤ℤ pos 0
    sum_low a b p q = omega (arith, ints, p, q)

under_cost : (cost sum : ℤ) → sum ≤ℤ pos 0 → (cost +ℤ sum) ≤ℤ cost
under_cost cost sum low = omega (arith, ints, low)

pub solutions_are_priced_low : (problem : Meanings) → IsRelaxation problem → SolutionsArePricedLow problem
solutions_are_priced_low problem relaxation picks multipliers solution fits =
    let low : slack_sum problem multipliers picks ≤ℤ pos 0 = slack_sum-low problem picks multipliers relaxation solution fits in
    record {
      with_cost = under_cost (problem.cost picks) (slack_sum problem multipliers picks) low;
      without_cost = under_cost (pos 0) (slack_sum problem multipliers picks) low;
    }

pub between : (a b c : ℤ) → a ≤ℤ b → b ≤ℤ c → a ≤ℤ c
between a b c p q = omega (arith, ints, p, q)

not_between : (a b : ℤ) → pos 0 <ℤ a → a ≤ℤ b → b ≤ℤ pos 0 → ⊥
not_between a b p q r = omega (arith, ints, p, q, r)

-- the value of a bound is the least priced value over near picks
pub bounds_are_chain_values : (problem : Meanings) → BoundsAreChainValues problem
bounds_are_chain_values problem region multipliers weight value old new (choice, reached) = record {
  picks = new;
  near = choice.near;
  reached = reached;
  least = λ others near. ⊎_elim (λ same. subst (λ picks. value.0 ≤ℤ priced problem multipliers weight picks) (sym same) (at_most (priced problem multipliers weight new) value.0 reached))
      (λ before. ⊎_elim (λ less. below (priced problem multipliers weight new) value.0 (priced problem multipliers weight others) reached less)
      (λ tie. level (priced problem multipliers weight new) value.0 (priced problem multipliers weight others) reached tie.0) before) (choice.first others near);
}
  where
    at_most : (a v : ℤ) → a ≡ v → v ≤ℤ a
    at_most a v same = omega (arith, ints, same)

    below : (a v b : ℤ) → a ≡ v → a <ℤ b → v ≤ℤ b
    below a v b same less = omega (arith, ints, same, less)

    level : (a v b : ℤ) → a ≡ v → a ≡ b → v ≤ℤ b
    level a v b same tie = omega (arith, ints, same, tie)

pub chain_values_are_one : (problem : Meanings) → ChainValuesAreOne problem
chain_values_are_one problem region multipliers weight value other one another =
    level value other (subst (λ v. value ≤ℤ v) another.reached (one.least another.picks another.near)) (subst (λ v. other ≤ℤ v) one.reached (another.least one.picks one.near))
  where
    level : (a b : ℤ) → a ≤ℤ b → b ≤ℤ a → a ≡ b
    level a b p q = omega (arith, ints, p, q)

pub empty_has_no_chain_value : (problem : Meanings) → EmptyHasNoChainValue problem
empty_has_no_chain_value problem region multipliers weight value empty chain = empty chain.picks chain.near

pub chain_values_bound : (problem : Meanings) → IsRelaxation problem → ChainValuesBound problem
chain_values_bound problem relaxation region multipliers value fits chain picks solution inside =
    between value (priced problem multipliers Cost picks) (problem.cost picks)
    (chain.least picks (relaxation.solution_near picks region solution inside))
    (solutions_are_priced_low problem relaxation picks multipliers solution fits).with_cost

pub empty_has_no_solution : (problem : Meanings) → IsRelaxation problem → EmptyHasNoSolution problem
empty_has_no_solution problem relaxation region empty picks solution inside = empty picks (relaxation.solution_near picks region solution inside)

pub rays_have_no_solution : (problem : Meanings) → IsRelaxation problem → RaysHaveNoSolution problem
rays_have_no_solution problem relaxation region multipliers fits (value, chain, positive) picks solution inside =
    not_between value (priced problem multipliers NoCost picks) positive
    (chain.least picks (relaxation.solution_near picks region solution inside))
    (solutions_are_priced_low problem relaxation picks multipliers solution fits).without_cost
