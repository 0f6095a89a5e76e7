-- the document of the answer to a disturbed day
pub mod ReplanLines
