-- the disturbed day, and the plans that go on from its past
pub mod Disturbances
-- what is searched for such a plan
pub mod RestsOfDays
-- what is promised of the answer
pub mod Promises
pub mod Laws
-- the inside of the rest of a day
pub mod PlannedComps
