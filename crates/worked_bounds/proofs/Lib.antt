pub mod RisingChanges
pub mod Rooted
pub mod LonePrices
