-- the text of a report
pub mod Text
-- what the reports name
pub mod Named
-- the three reports
pub mod DutyRows
pub mod YardRows
pub mod CostRows
-- which rows of a report stand where
pub mod Layouts
-- that the rows of the report of yards add up, and that times are read again
pub mod Laws
-- the inside of the report of yards
pub mod LoadedYards
