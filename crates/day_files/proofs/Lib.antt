pub mod Refusing
pub mod OneFile
pub mod Accepted
pub mod Reached
pub mod FirstRefused
pub mod RefusedFirst
pub mod ErrorTables
pub mod Keeping
