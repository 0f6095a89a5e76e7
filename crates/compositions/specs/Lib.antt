pub mod Catalogue
pub use Rattle.rules.specs.Composition
pub mod Extensions
pub mod Measure
pub mod UnitTypes
