pub mod Idle
pub mod Laws
pub mod Log
pub mod RefMap
pub mod SentMap
pub mod StandsForLog
