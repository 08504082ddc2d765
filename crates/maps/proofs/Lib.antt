mod Chunks
pub mod Quads
pub mod Written
pub mod Lent
pub mod Back
mod Vectors
