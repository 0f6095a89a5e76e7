pub mod Beginning
pub mod Weeks
pub mod Alike
pub mod NamedDays
pub mod PlacedUnits
pub mod Reading
pub mod LateTrips
pub mod Faults
