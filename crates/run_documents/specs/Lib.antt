-- the answer of a folder
pub mod AnswerFiles
-- the lines that are written
pub mod Lines
pub mod CheckTexts
pub mod TrialTexts
-- the document of what a run comes to
pub mod Texts
-- what was read of a folder, and what an error of its tables comes to
pub mod Readings
pub mod Errors
-- how the planning of a day ends
pub mod Planning
