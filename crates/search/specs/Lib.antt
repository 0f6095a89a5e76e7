-- how the advisors of a search are asked
pub mod Questions
-- what a search finds
pub mod Conclusions
-- the best solution so far, and evaluations of a region
pub mod Offers
pub mod Evaluations
-- a node in work, and what its advisors are shown and answer
pub mod NodesInWork
pub mod NodeAdvice
pub mod Rounds
-- what improvers are shown, and what is made of their answers
pub mod Improvements
-- the nodes of a search, and those of them that may be branched
pub mod Nodes
pub mod Frontiers
pub mod Putting
-- the end of a search
pub mod Ends
