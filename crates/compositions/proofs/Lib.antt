pub mod Building
pub mod Families
pub mod Fitting
pub mod Growth
pub mod Listing
pub mod Lookup
pub mod Order
pub mod Sums
