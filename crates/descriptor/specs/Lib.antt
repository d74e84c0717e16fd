pub mod Numbers
pub mod Layout
pub mod Steps
pub mod Values
