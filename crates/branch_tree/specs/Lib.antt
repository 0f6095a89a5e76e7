-- sums of integers
pub mod IntSums
-- regions and their cuts
pub mod Sets
-- the inside of a set
pub mod Bits
pub mod Regions
pub mod Cuts
-- multipliers and slacks
pub mod Entries
-- the inside of a multiplier list
pub mod Places
-- trees of cuts
pub mod Trees
-- the inside of the least bound of a tree
pub mod LeastBounds
-- relaxations, their bounds, and what a tree proves
pub mod Meanings
pub mod Bounds
pub mod Claims
pub mod Laws
