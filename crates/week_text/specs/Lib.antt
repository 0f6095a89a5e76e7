-- the document, line by line
pub mod WeekLines
