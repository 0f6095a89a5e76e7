-- what has to be believed, in the order in which it is read
pub mod Lists
pub mod Composition
pub mod Day
pub mod Admissible
pub mod Turns
pub mod Links
pub mod Duties
pub mod Running
pub mod Cost
pub mod Truths
-- what the contracts of the code name beside it
pub mod NamedTrips
