-- what a day is
pub use Rattle.rules.specs.Lists
pub use Rattle.rules.specs.Day
pub mod Starts
pub use Rattle.rules.specs.Admissible
pub use Rattle.day_tables.specs.Compositions
-- which plans of it run, and what they cost
pub use Rattle.rules.specs.Turns
pub mod TurnsWithoutExchange
pub use Rattle.rules.specs.Links
pub use Rattle.rules.specs.Duties
pub use Rattle.rules.specs.Running
pub use Rattle.rules.specs.Cost
pub mod Renumbering
pub mod LinkCounts
pub mod Picks
-- its chains and hand-overs
pub mod Chains
pub mod Handovers
-- the departure minutes of its stations
pub mod Minutes
-- its multipliers
pub mod Indices
-- which tables make a day, and which rows make a plan
pub use Rattle.day_tables.specs.Rowwise
pub use Rattle.day_tables.specs.Tests
pub use Rattle.day_tables.specs.NamedEntries
pub use Rattle.day_tables.specs.LinkRows
pub use Rattle.day_tables.specs.Build
pub use Rattle.day_tables.specs.DayTables
pub mod Plans
pub use Rattle.day_tables.specs.Meaning
pub use Rattle.day_tables.specs.Refusals
-- what is known of accepted days and entries
pub mod Accepted
pub use Rattle.day_tables.specs.Within
pub use Rattle.day_tables.specs.DerivedDays
-- what is so of every day, table and plan
pub mod Laws
-- the inside of an instance, and of the building of one
pub use Rattle.day_tables.specs.AcceptedRows
pub use Rattle.day_tables.specs.LinkTables
pub mod InstanceParts
pub use Rattle.day_tables.specs.Flags
pub use Rattle.day_tables.specs.Flagged
pub mod Beside
pub use Rattle.rules.specs.Composition
