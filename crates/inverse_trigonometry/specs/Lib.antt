-- Arcsine and arctangent of f64s, and the search of the grid that finds them.
pub mod Asin
pub mod Atan2
pub mod Goal
