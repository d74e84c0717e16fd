pub mod Numbers
pub mod Questions
pub mod Messages
pub mod Sources
pub mod Resolution
pub mod Worked
