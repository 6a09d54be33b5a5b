-- Arcsine and arctangent on a grid of angles.
pub mod Arcsine
pub mod Arctangent
pub mod Enclosure
pub mod Grid
pub mod Search
