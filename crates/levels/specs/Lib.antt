pub mod Maps
pub mod Towers
pub mod Numbering
pub mod Listing
pub mod Square
pub mod Laws
pub mod SquareLaws
pub mod Examples
