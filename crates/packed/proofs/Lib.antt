pub mod Packing
pub mod Wiping
pub mod Bytes
pub mod Fields
pub mod Chunks
