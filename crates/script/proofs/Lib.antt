pub mod Comments
pub mod Sittings
