-- how a command is written as words
pub mod PlainForm
-- the command that words make
pub mod Commands
-- what the limits are
pub mod Limits
