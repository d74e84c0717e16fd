pub mod Lawfulness
pub mod Changes
pub mod Soundness
pub mod RoundTrips
