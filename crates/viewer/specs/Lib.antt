pub mod Originals
pub mod Shows
