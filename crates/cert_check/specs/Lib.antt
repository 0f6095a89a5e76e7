-- the verdict on a claim, and the order of the reasons
pub mod Verdicts
pub mod Reasons
pub mod Tests
-- what a checker is made for
pub mod Sizes
pub mod Laws
-- the inside of a check: the way down a tree
pub mod Paths
