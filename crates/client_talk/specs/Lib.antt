pub mod Contents
pub mod Scripts
pub mod Talk
pub mod Steps
pub mod Rmi
pub mod Sessions
pub mod Commands
pub mod Calling
