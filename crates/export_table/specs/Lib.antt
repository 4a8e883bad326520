pub mod ExportRows
pub mod Table
pub mod Waits
pub mod Slots
pub mod StandsForHistory
pub mod WaitIndex
pub mod WaitTable
