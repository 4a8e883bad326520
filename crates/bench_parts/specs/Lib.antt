pub mod Sample
pub mod Sizes
