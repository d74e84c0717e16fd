pub mod Nesting
pub mod Rules
pub mod Machine
pub mod Laws
pub mod Worked
pub mod Printed
