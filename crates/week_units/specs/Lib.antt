-- days that make a week
pub mod Weeks
-- week plans, and which unit of the week each unit of a day is
pub mod WeekPlans
pub mod Names
-- what is so of week plans
pub mod Laws
-- for the inside: parts of a night, and units that are listed
pub mod NightParts
pub mod Listed
