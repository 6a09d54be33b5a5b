-- avoidance.rs: the search among trials, and the avoidance of one contact.
pub mod Avoid
pub mod Closest
pub mod Fit
pub mod Search
pub mod Seeds
pub mod Smallest
