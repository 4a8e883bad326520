pub mod MethodText
pub mod Next
pub mod TextReading
pub mod Hash
pub mod System
