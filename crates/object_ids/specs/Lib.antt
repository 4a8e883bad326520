pub mod Bytes
pub mod Client
pub mod Draw
pub mod Same
