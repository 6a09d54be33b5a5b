-- Two vessels that meet: what they are, where and how they move, in what visibility and wind.
pub mod Arguments
pub mod Codes
pub mod Situation
