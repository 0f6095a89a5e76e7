pub mod Passing
mod Numbers
mod Rows
pub mod Tables
mod Reading
mod RowTrips
mod RowsRead
