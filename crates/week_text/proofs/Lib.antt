-- lines of things that are counted, one more at a time
mod Counted
