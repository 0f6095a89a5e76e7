-- what is drawn, and which tables are made of it
pub mod Draws
pub mod Trial
-- what is so of these tables
pub mod AcceptedTables
