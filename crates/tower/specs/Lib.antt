pub mod Checks
pub mod Known
pub mod Calls
pub mod Runs
