-- words make one command at most
pub mod OneCommand
-- what words are read as
pub mod Readings
