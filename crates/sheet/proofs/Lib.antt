-- Laws, and what code owes.
pub mod Accepted
pub mod Back
pub mod Before
pub mod Exactly
pub mod Forth
pub mod Groups
pub mod Refusals
pub mod SheetCode
