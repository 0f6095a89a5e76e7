-- the one text of each answer
pub mod Lines
pub mod Texts
-- which answers are read, and what is wrong with other bytes
pub mod Limits
pub mod Grammar
pub mod Laws
-- the inside of reading: pieces, numbers, lines, places in a document
pub mod Pieces
pub mod Numbers
pub mod ReadLines
pub mod ReadStates
