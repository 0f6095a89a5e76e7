-- how files, columns and refusals are called
pub mod Names
pub mod Texts
pub mod Lines
-- one file of a folder
pub mod OneFile
-- the day and the plan in a folder, or the first file that is refused
pub mod Tables
pub mod Inputs
pub mod Kept
pub mod UnitTables
pub mod Order
pub mod Acceptance
-- what a call that reads a folder answers
pub mod Answers
