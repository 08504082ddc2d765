pub mod Limits
pub mod Quads
pub mod Rows
pub mod Sizes
