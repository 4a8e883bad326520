pub mod AskedRowLaws
pub mod BalanceLaws
pub mod LegalLaws
pub mod TieSteps
pub mod ToldLaws
