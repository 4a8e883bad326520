pub mod Exact
pub mod Spelling
pub mod Order
