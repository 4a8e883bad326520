pub mod SystemIds
pub mod SystemMethods
