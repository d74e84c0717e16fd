pub mod Tables
pub mod Renames
pub mod Holding
