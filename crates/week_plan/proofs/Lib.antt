pub mod AskedDays
pub mod Answered
pub mod WeekHeads
pub mod HeadSums
pub mod Refusals
