pub mod Reaching
pub mod Pushing
pub mod Cutting
pub mod Largest
