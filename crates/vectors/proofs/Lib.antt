pub mod Bitwise
pub mod Counts
pub mod Searches
pub mod Grouped
