-- What the answers to the days of a week say together.
use Rattle.std.specs.Prelude.{List, [], ◌∷◌, pos, ◌+ℤ◌}
use Rattle.rail_base.specs.declared.numbers.Money.{Money}
use Rattle.answer_text.specs.declared.answer.Answer.{Answer}
use Rattle.rules.specs.declared.heads.Head.{Head}
use Rattle.rules.specs.declared.heads.Head.TheVariants.{Optimal, Infeasible, Bounded, BoundedPlan}

abbrev pub plus : Money → Money → Money
plus one other = record { 0 = one.0 +ℤ other.0 }

-- The head of a day, and that of the days after it, say together: that no plan runs, where one of them says so. Else
-- they say a bound where one of them does, the sum of what they say, where `optimal` counts with its cost; and a plan
-- where both have one, at the sum of the costs.
abbrev pub together : Head → Head → Head
together Infeasible rest = Infeasible
together (Optimal cost) Infeasible = Infeasible
together (Optimal cost) (Optimal more) = Optimal (plus cost more)
together (Optimal cost) (Bounded bound) = Bounded (plus cost bound)
together (Optimal cost) (BoundedPlan bound more) = BoundedPlan (plus cost bound) (plus cost more)
together (Bounded bound) Infeasible = Infeasible
together (Bounded bound) (Optimal cost) = Bounded (plus bound cost)
together (Bounded bound) (Bounded more) = Bounded (plus bound more)
together (Bounded bound) (BoundedPlan more cost) = Bounded (plus bound more)
together (BoundedPlan bound cost) Infeasible = Infeasible
together (BoundedPlan bound cost) (Optimal more) = BoundedPlan (plus bound more) (plus cost more)
together (BoundedPlan bound cost) (Bounded other) = Bounded (plus bound other)
together (BoundedPlan bound cost) (BoundedPlan other more) = BoundedPlan (plus bound other) (plus cost more)

-- the head of a week with these answers
abbrev pub head_of : List Answer → Head
head_of [] = Optimal (record { 0 = pos 0 })
head_of (answer ∷ answers) = together answer.head (head_of answers)
