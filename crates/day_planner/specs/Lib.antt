-- that an answer says what a search has found
pub mod FoundAnswers
-- problems whose answers can be written down and read again
pub mod Answerable
pub mod Laws
