pub mod Terms
pub mod Book
pub mod ReturnBytes
pub mod MethodByHead
pub mod SystemRequests
pub mod SystemReturns
pub mod FixedReturns
