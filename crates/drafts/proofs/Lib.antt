pub mod Rows
pub mod Standing
