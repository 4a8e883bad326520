pub mod Counters
pub mod Changes
pub mod Does
pub mod Kinds
pub mod Opened
