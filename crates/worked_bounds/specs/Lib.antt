-- a relaxation in small
pub mod LonePicks
pub mod LoneRelaxes
