-- what words ask for
pub mod Asking
-- statuses, and what is written of an outcome
pub mod Statuses
pub mod Written
-- how the commands end
pub mod Simulating
pub mod Answering
pub mod Judging
pub mod Endings
-- the laws
pub mod Rereading
pub mod OneOutcome
