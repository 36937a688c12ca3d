pub mod Bests
pub mod ClosedLogs
pub mod EncodingLaws
pub mod Showing
pub mod Telling
pub mod Verdicts
