-- What settling names: the index of a place, and the sign of a slack.
use Rattle.std.specs.Prelude.{ℕ, ◌≡◌, ℤ, pos, ◌-ℤ◌}
use Rattle.timetable.specs.declared.day.indices.Place.{Place}
use Rattle.timetable.specs.declared.day.indices.Place.TheVariants.{Lambda, Mu}
use Rattle.timetable.specs.Day.{Day, wanted_of}
use Rattle.timetable.specs.Indices.{IsIndexOf}
use Rattle.inventory.specs.declared.faults.StockFault.{StockFault}
use Rattle.inventory.specs.declared.faults.StockFault.TheVariants.{Short, Balance}
use Rattle.branch_tree.specs.declared.relaxation.Settled.{Settled}
use Rattle.branch_tree.specs.declared.relaxation.Settled.TheVariants.{Costs, Broken}
use Rattle.price_bound.specs.Slacks.{sign_of}

-- what a fault of the yards is at
abbrev pub place_of_fault : StockFault → Place
place_of_fault (Short s m k count) = Lambda s m k
place_of_fault (Balance s m count) = Mu s m

-- the sign of the slack there
abbrev pub fault_sign : Day → StockFault → ℤ
fault_sign day (Short s m k count) = pos 1
fault_sign day (Balance s m count) = sign_of (pos (wanted_of day s m) -ℤ count)

-- picks are settled as broken at a place, with a sign
pub record IsBrokenAt (day : Day) (place : Place) (value : ℤ) (index : ℕ) (sign : ℤ) : Type 0 where
  pub index_of : IsIndexOf day place index
  pub is : value ≡ sign

abbrev pub Names : Day → Place → ℤ → Settled → Type 0
Names day place value (Costs cost) = ⊥
Names day place value (Broken index sign) = IsBrokenAt day place value index sign
