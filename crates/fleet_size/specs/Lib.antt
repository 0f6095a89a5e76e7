-- what is promised of a fleet that was found
pub mod Found
-- for the inside: the nodes of a search with their boxes, and what they are worth
pub mod Slots
pub mod Values
