-- the table of urgent units
pub mod Wishes
pub mod WishReading
-- the legs of units, and the moments of stations
pub mod Runs
pub mod Legs
pub mod Moments
pub mod LegParts
pub mod Held
-- yard cuts and what they are worth
pub mod Cuts
-- other namings, and two units that exchange what leaves from a minute on
pub mod Namings
pub mod Exchanges
-- the network in which urgent units flow to the depot
pub mod YardNetwork
pub mod NetworkSteps
-- units on their way
pub mod UnderWay
pub mod YardFlow
-- what is promised of an answer
pub mod Answers
-- what is so of legs and cuts
pub mod Laws
