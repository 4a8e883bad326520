pub mod Members
pub mod Grammar
pub mod Reading
pub mod Text
pub mod Whole
pub mod Loops
pub mod Laws
pub mod Description
