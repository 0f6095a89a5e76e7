-- the document of a fleet
pub mod FleetLines
