-- The list type of formulas as a former of recursive types.
pub mod parts
