-- The relations and functions that the laws speak of.
pub mod Ascending
pub mod Eighths
pub mod First
pub mod Fold
pub mod Ops
pub mod Rounding
pub mod Rows
pub mod Size
pub mod Units
