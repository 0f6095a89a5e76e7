pub mod Drawing
pub mod Names
pub mod Passing
pub mod Within
pub mod Accepting
