pub mod Bytes
pub mod Parts
pub mod Numbers
pub mod Reading
pub mod Held
pub mod Laws
pub mod Sessions
pub mod Printed
