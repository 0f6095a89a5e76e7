-- the headline: what is promised of an answer to a day
pub mod Headline
-- what is said of its tree
pub mod ProvedTrees
-- what it says of the plans of a region, under changes
pub mod RegionTruths
-- when an answer is valid
pub mod Validity
-- the verdict on it
pub mod Verdicts
-- what holds of verdicts, and of what answers say
pub mod Laws
