pub mod Turning
pub mod OfTheStock
