pub mod Booking
pub mod Counting
pub mod FreeOpens
pub mod Giving
