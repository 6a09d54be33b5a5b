-- The search that tries course and speed together, whose contract holds what request R-3 states.
pub mod Computed
pub mod Pairs
pub mod Slowing
