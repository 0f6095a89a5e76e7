pub mod LinkedTrains
pub mod Sums
pub mod WithoutExchange
pub use Rattle.rules.specs.Day
pub use Rattle.rules.specs.Cost
pub use Rattle.timetable.specs.Compositions
