pub mod FaultReturns
pub mod Books
pub mod SystemNames
pub mod SystemAsks
pub mod FixedReturns
pub mod SystemRows
