pub mod Meaning
pub mod Ops
pub mod Bottom
pub mod Laws
