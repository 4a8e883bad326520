pub mod Begins
pub mod Writes
pub mod Cuts
pub mod Bytes
pub mod Streams
