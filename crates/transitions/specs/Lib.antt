pub mod Turns
pub mod Edges
pub mod Between
pub mod Pairs
pub mod Laws
