pub mod Leaves
pub mod SlotTrees
pub mod Counts
pub mod Asked
pub mod Founds
pub mod Offering
pub mod NextBoxes
