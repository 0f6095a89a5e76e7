-- what an answer, a plan and its past come to on other days
pub mod OtherDays
-- units that run one another's duties
pub mod SwappedDuties
-- the day without some trips
pub mod LeftTrips
-- answers in a region where enough branchings are granted
pub mod EndedSearches
-- files in folders below folders
pub mod DeepFiles
