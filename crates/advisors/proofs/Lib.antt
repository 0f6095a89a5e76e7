pub mod EntryLists
pub mod Turns
pub mod Merging
pub mod Fitting
pub mod Saturating
pub mod Within
