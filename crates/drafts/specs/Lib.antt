pub mod Given
pub mod Drafts
