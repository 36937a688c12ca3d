pub mod RowSteps
pub mod RowTerms
