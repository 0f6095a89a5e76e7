-- How large the amounts of a head are.
use Rattle.std.specs.Prelude.{ℕ, ◌≤◌, unsigned_abs}
use Rattle.rail_base.specs.declared.numbers.Money.{Money}
use Rattle.rules.specs.declared.heads.Head.{Head}
use Rattle.rules.specs.declared.heads.Head.TheVariants.{Optimal, Infeasible, Bounded, BoundedPlan}

-- no amount is larger
abbrev pub IsUpTo : ℕ → Money → Type 0
IsUpTo most amount = unsigned_abs amount.0 ≤ most

abbrev pub IsHeadUpTo : ℕ → Head → Type 0
IsHeadUpTo most (Optimal cost) = IsUpTo most cost
IsHeadUpTo most Infeasible = Unit {0}
IsHeadUpTo most (Bounded bound) = IsUpTo most bound
IsHeadUpTo most (BoundedPlan bound cost) = IsUpTo most bound × IsUpTo most cost
