pub mod Flows
pub mod Steps
pub mod NetworkParts
pub mod Laws
