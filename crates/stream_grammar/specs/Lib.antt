pub mod Spelled
pub mod Reading
pub mod Faults
pub mod StreamLaws
