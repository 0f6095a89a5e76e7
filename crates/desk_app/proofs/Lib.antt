pub mod Statuses
pub mod PlannedDays
pub mod SwappedUnits
pub mod ReplannedRests
pub mod PlannedWeeks
pub mod FoundFleets
pub mod Written
pub mod Endings
