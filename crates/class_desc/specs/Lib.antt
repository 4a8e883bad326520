pub mod TypeCode
pub mod TypeText
pub mod ClassDesc
pub mod KnownClass
