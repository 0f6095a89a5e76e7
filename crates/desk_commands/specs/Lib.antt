-- how a command is written as words
pub mod PlainForm
-- what the reading of words answers
pub mod Reading
-- what holds of all words, and what the limits are
pub mod Laws
