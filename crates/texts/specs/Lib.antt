pub mod Words
pub mod Commands
pub mod Laws
