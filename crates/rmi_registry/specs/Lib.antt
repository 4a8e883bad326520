pub mod Bindings
pub mod MapEntries
pub mod StandsForHistory
