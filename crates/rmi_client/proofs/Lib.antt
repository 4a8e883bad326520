pub mod Ending
pub mod Replying
pub mod Returning
pub mod Asking
pub mod Leasing
