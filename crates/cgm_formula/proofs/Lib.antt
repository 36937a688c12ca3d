pub mod Comparisons
pub mod Folds
pub mod Induction
pub mod Truths
