pub mod Counts
pub mod Order
pub mod Cut
pub mod Again
pub mod Gaps
pub mod Filling
mod Details
