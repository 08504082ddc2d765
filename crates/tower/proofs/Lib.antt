pub mod Sides
pub mod Together
pub mod Wrong
pub mod Order
pub mod Squared
pub mod Taken
pub mod Replay
