-- Why picked compositions have no plan that runs.
use Rattle.std.specs.Prelude.{ℕ, ◌≡◌, List}
use Rattle.timetable.specs.Day.{Day}
use Rattle.timetable.specs.Picks.{picked, IsSolution}
use Rattle.inventory.specs.StockFaults.{IsFault}
use Rattle.unit_duties.specs.declared.refusal.DutyRefusal.{DutyRefusal}
use Rattle.unit_duties.specs.declared.refusal.DutyRefusal.TheVariants.{LinkBroken, Stock, NoMemory}
use Rattle.unit_duties.specs.Broken.{EachHolds, IsFirstBroken}

-- the first link that is broken; or, where none is, the first fault of the yards; want of memory comes only where none
-- is
abbrev pub IsRefusal : Day → List ℕ → DutyRefusal → Type 0
IsRefusal day picks (LinkBroken l) = IsFirstBroken day (picked day picks) l
IsRefusal day picks (Stock fault) = EachHolds day (picked day picks) × IsFault day (picked day picks) fault
IsRefusal day picks NoMemory = EachHolds day (picked day picks)

-- but for want of memory, no plan that runs has these picks
abbrev pub HaveNoPlan : Day → List ℕ → DutyRefusal → Type 0
HaveNoPlan day picks refusal = (refusal ≡ NoMemory → ⊥) → IsSolution day picks → ⊥
