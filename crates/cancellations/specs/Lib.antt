-- which trips may be cancelled, and what a table of them says
pub mod Cancellations
-- the later day
pub mod DaysWithout
pub mod Laws
-- the inside of reading a table
pub mod ReadRows
