-- the days that were read so far
pub mod ReadDays
