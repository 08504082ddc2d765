pub mod Levels
mod Rising
