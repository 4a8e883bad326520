pub mod TypeTexts
pub mod Fields
