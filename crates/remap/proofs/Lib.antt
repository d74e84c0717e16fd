pub mod Asking
pub mod Masks
pub mod Judging
