pub mod Canonical
pub mod Nodes
