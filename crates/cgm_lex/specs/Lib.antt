pub mod Lexemes
pub mod Lines
pub mod Names
pub mod Numbers
pub mod Pieces
pub mod Readings
pub mod Spans
pub mod Spelling
