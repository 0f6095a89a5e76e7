-- the table of prices
pub mod PriceTables
pub mod PriceReading
-- what is said of all fleets, and the verdict on it
pub mod Chosen
pub mod Heads
pub mod Verdicts
pub mod Tests
-- the inside of a check: the way through the boxes
pub mod Walks
pub mod Laws
