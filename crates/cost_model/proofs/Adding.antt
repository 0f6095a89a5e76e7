-- The three parts add up to the cost.
use Rattle.std.proofs.Common.{◌≡◌, ℕ, zero, suc, ◌+◌, List, length, refl, arith}
use Rattle.timetable.specs.Cost.{trip_cost, cost_of}
use Rattle.timetable.specs.Day.{Day}
use Rattle.timetable.specs.Links.{list_of}
use Rattle.timetable.specs.Lists.{sum_below}
use Rattle.cost_model.specs.Sums.{carriages_on, missing_on, carriage_of, shortage_of, shunting_of, AddUp}

-- a sum of sums, term by term
sum_below-add : (f g h : ℕ → ℕ) (n : ℕ) → ((k : ℕ) → f k + g k ≡ h k) → sum_below f n + sum_below g n ≡ sum_below h n
sum_below-add f g h zero each = refl
sum_below-add f g h (suc n) each = omega (arith, sum_below-add f g h n each, each n)

-- what a trip costs is its carriages and its missing seats
trip_cost-parts : (day : Day) (t : ℕ) (types : List ℕ) → carriages_on day t types + missing_on day t types ≡ trip_cost day t types
unfolding trip_cost
trip_cost-parts day t types = refl

pub add_up : AddUp
unfolding carriage_of shortage_of shunting_of cost_of
add_up day lists =
    let trips = sum_below-add (λ t. carriages_on day t (list_of lists t)) (λ t. missing_on day t (list_of lists t)) (λ t. trip_cost day t (list_of lists t)) (length day.trips)
    (λ t. trip_cost-parts day t (list_of lists t)) in
    omega (arith, trips)
