-- picks that follow, and the parts of joins and splits
pub mod FollowingPicks
pub mod Near
-- slacks, and where picks are broken
pub mod Slacks
pub mod Parts
-- the relaxation
pub mod DayMeanings
-- what settling names
pub mod BrokenPlaces
-- where picks are broken first
pub mod BrokenLaws
-- what is entered of the slacks
pub mod Entered
-- how large slacks and priced values are
pub mod Sizes
-- plans of named units
pub mod PlanBounds
-- the priced value, regrouped over trips and links
pub mod YardPrices
pub mod Regrouped
-- changed costs
pub mod Changes
-- cheapest paths along a chain, and what they come to on a day
pub mod Paths
pub mod EdgeValues
pub mod ChainStages
pub mod FirstPaths
-- how they are found: tables of prices, and rows of cells
pub mod CellSizes
pub mod YardTables
pub mod PriceTables
pub mod Credits
pub mod Costs
pub mod CellRows
pub mod EdgeGroups
pub mod Pricing
pub mod TripAndLinkPrices
pub mod Rooms
pub mod ChangedDays
-- turns without exchange, by passes over the compositions
pub mod LeastOverTrees
pub mod CompositionTrees
pub mod HeldValues
pub mod PassRooms
pub mod PassValues
pub mod RowValues
