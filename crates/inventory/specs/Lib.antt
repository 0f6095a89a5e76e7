-- how many units stand in the yards
pub mod Counts
pub mod StockFaults
pub mod ServingLaws
-- what a ledger keeps of it
pub mod Loaded
pub mod Counted
pub mod FirstIn
pub mod CountTable
-- which units run on which trip
pub mod Places
pub mod NamedUnits
pub mod NamedBefore
pub mod NamingLaws
pub mod ReadyUnits
-- which picks are solutions
pub mod SolutionLaws
