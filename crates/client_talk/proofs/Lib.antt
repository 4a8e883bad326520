mod Talking
mod Playing
pub mod Stepping
pub mod Joining
pub mod Leaving
pub mod Registry
mod Rows
mod Leasing
mod Holding
mod Flagged
