pub mod EmptyLists
pub mod GraphSizes
pub mod GraphTruths
pub mod Groups
pub mod KnownNames
pub mod RuleTruths
pub mod VariableLists
