-- proposals
pub mod Proposed
pub mod Proposals
-- what an advisor answers
pub mod Quits
-- the advisors that are there
pub mod Dives
pub mod MultiplierSteps
pub mod SteppedProposals
-- parts of a list of entries, and entries put one after another
pub mod EntriesByIndex
pub mod Puts
