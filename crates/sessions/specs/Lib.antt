pub mod Runs
pub mod Stands
pub mod Laws
