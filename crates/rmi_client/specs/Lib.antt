pub mod Ends
pub mod Replies
pub mod Sessions
pub mod Requests
pub mod Leases
