pub mod Pieces
pub mod Numbers
pub mod Readings
pub mod Named
pub mod Back
