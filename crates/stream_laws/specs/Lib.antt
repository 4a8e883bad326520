pub mod Reads
pub mod Fails
pub mod WantFails
