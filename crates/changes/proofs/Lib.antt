mod Raising
pub mod Touched
mod Carrying
