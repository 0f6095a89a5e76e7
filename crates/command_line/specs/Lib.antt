-- the forms of words after a command word, and what words of them say
pub mod Forms
pub mod Texts
-- the words taken apart one after another
pub mod Parts
-- the commands of `clap`
pub mod Apps
