-- results that are returned as they are
pub mod Returning
-- orders of integers, and whether a bound leaves room for a better solution
pub mod Below
-- offers and evaluations
pub mod Evaluating
-- nodes in work
pub mod Working
-- how often advisors are asked, and what they make of a node
pub mod Asking
pub mod Leaving
pub mod Advising
-- the cut of a node, and nodes from their work
pub mod Choosing
pub mod Placing
-- what is offered within a root, and improvements
pub mod Offering
-- the nodes after a branching
pub mod Growing
-- the end of a search
pub mod Finishing
-- how often advisors are asked in a whole search
pub mod Counting
-- which nodes a frontier has
pub mod Entering
