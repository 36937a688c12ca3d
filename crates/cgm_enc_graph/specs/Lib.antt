pub mod GraphClauses
pub mod GraphRules
pub mod Laws
