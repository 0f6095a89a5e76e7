pub mod NamedRuns
pub mod Leaves
pub mod Granting
pub mod Planned
pub mod Answerable
pub mod OpenLeaves
