-- what is asked of a region and of a change, and what is true of an answer
pub mod KeptRegions
-- what answers and plans come to on other days
pub mod OtherDays
-- units that run one another's duties
pub mod SwappedDuties
-- the day without some trips
pub mod LeftTrips
-- answers in a region where enough branchings are granted
pub mod EndedSearches
-- files in folders below folders
pub mod DeepFiles
