pub mod Described
pub mod Reading
pub mod Giving
pub mod Failing
pub mod Aheads
pub mod WantFailing
pub mod FaultLaws
