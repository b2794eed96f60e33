-- The lemmas, bottom to top.
pub mod Sums
pub mod Climbs
pub mod Searches
