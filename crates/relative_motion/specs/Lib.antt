-- relative_motion.rs: the closest point of approach, bow crossing, plots, the course for a closest
-- approach.
pub mod Approach
pub mod Bow
pub mod Course
pub mod Offers
pub mod Plot
pub mod Sound
