-- the answers to the days of a week, and what they say together
pub mod Heads
pub mod DayAnswers
-- what is promised of a week
pub mod WeekAnswers
-- that the head of a week is the sum of those of its days
pub mod Laws
-- for the inside: how large amounts are
pub mod Amounts
