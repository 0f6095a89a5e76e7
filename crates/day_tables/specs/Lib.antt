-- what a day is
pub use Rattle.rules.specs.Lists
pub use Rattle.rules.specs.Day
pub use Rattle.rules.specs.Admissible
pub mod Compositions
pub use Rattle.rules.specs.Turns
pub use Rattle.rules.specs.Links
pub use Rattle.rules.specs.Running
-- which tables make a day
pub mod Rowwise
pub mod Tests
pub mod NamedEntries
pub mod LinkRows
pub mod Build
pub mod DayTables
pub mod Meaning
pub mod Refusals
-- what is known of accepted days and entries
pub mod Accepted
pub mod Within
pub mod DerivedDays
-- the inside of the building of one
pub mod AcceptedRows
pub mod LinkTables
pub mod Flags
pub mod Flagged
pub use Rattle.rules.specs.Composition
