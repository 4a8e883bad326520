pub mod Generator
pub mod Rounds
pub mod Runs
