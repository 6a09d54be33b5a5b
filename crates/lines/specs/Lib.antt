-- The lines that the program prints, and their fields.
pub mod Approach
pub mod Lines
pub mod Ruling
pub mod Turn
