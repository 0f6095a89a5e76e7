pub mod Calls
pub mod Finding
pub mod Reading
pub mod Writing
