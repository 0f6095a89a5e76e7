pub mod LaterFacts
pub mod Frozen
pub mod PlannedTypes
pub mod PastRoots
pub mod GoingOn
pub mod PastsKept
pub mod Prices
pub mod Saying
mod KeptAlone
mod RootSteps
mod ChangeLists
mod Inside
mod Searched
