-- what was written, the status that says so, and how many calls failed
pub mod Written
-- how a run leaves the folder and the sink, and how it ends where nothing is asked for
pub mod Endings
