pub mod Sets
pub mod Search
pub mod Numbers
