pub mod Parts
pub mod Costs
pub mod CostSums
pub mod Walking
