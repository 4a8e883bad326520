pub mod Faults
pub mod World
pub mod Letters
pub mod Tables
pub mod Stands
pub mod Script
pub mod Words
