-- the plain form of words after a command word, by what is written
pub mod Items
-- numbers in them
pub mod Numbers
-- what words are read as
pub mod Commands
-- the words taken apart one after another
pub mod Reading
