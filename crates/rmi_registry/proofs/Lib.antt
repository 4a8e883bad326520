pub mod Entries
pub mod BindingLaws
pub mod StandLaws
