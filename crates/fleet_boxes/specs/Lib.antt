pub mod Prices
pub mod Boxes
pub mod ProvedBoxes
pub mod Laws
