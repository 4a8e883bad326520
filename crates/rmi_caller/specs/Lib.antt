pub mod Answers
pub mod Arguments
pub mod Calls
pub mod Errors
pub mod Exceptions
pub mod Finding
pub mod Leasing
