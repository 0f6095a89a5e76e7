-- the days of a week in a folder
pub mod WeekFiles
