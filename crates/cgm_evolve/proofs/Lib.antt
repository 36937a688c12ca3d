pub mod Counts
pub mod Drafts
pub mod Given
pub mod Giving
pub mod Outcomes
pub mod Pushing
pub mod TextBack
