pub mod Logs
pub mod RefEntries
pub mod Resting
pub mod SentEntries
pub mod Settled
pub mod Told
