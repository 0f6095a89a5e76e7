pub mod Meanings
pub mod Readings
