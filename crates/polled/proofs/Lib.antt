pub mod Lawfulness
pub mod PageLaws
pub mod Wipes
pub mod Blanks
pub mod RoundTrip
pub mod Filled
