pub mod Stopping
pub mod Filling
pub mod Adding
pub mod ReadTimes
pub mod Blocks
pub mod ReadRows
pub mod PlainNumbers
pub mod WholeReports
