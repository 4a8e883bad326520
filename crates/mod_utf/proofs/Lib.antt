pub mod Characters
pub mod Decoded
pub mod Fronts
pub mod Spelling
