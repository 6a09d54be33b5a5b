-- What code owes.
pub mod ArgumentsCode
pub mod Patterns
pub mod PlotsCode
