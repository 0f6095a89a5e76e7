-- what a run comes to
pub mod Outcomes
pub mod PlanOutcomes
pub mod SwapOutcomes
pub mod ReplanOutcomes
pub mod WeekOutcomes
pub mod FleetOutcomes
pub mod ReadErrors
-- what the files say of urgent units, of cancelled trips, of weeks and of prices
pub mod FileNames
pub mod Wished
pub mod Cancelled
pub mod WeekDays
pub mod Priced
-- its document, and the status that it ends with
pub mod Documents
pub mod SwapTexts
pub mod Statuses
pub mod SwapEndings
pub mod ReplanEndings
pub mod WeekEndings
pub mod FleetEndings
pub mod DeskEndings
-- how far a search has come, in words
pub mod ProgressTexts
