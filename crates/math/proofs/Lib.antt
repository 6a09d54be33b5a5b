-- Laws, and what code owes.
pub mod AngleCode
pub mod Apart
pub mod Convert
pub mod DurationCode
pub mod FullTurns
pub mod Range
pub mod Rounded
pub mod Seconds
pub mod Sign
pub mod Whole
