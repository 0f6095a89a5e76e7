pub mod Adding
pub mod ByLength
