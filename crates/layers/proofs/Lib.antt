pub mod Layering
pub mod Passing
