pub mod Chains
pub mod Meanings
