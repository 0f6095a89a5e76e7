-- what words ask for
pub mod Asked
-- what a run comes to, and the status of it
pub mod ReportTexts
pub mod Readings
pub mod DayOutcomes
pub mod Outcomes
pub mod Statuses
pub mod PlannerEndings
pub mod Advice
-- what holds of every answer that is found
pub mod Laws
-- what the limits are
pub mod Limits
