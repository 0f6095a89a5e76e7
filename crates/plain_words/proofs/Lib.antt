-- the parts of a word
pub mod Parting
-- the words from a place on
pub mod Copying
-- the items of words
pub mod Made
-- how often options are given
pub mod Once
-- numbers
pub mod Spelled
-- the words that a program is started with
pub mod Gathered
