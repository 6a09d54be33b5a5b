-- Square root and hypotenuse.
pub mod Digits
pub mod Hypot
pub mod Root
pub mod Sqrt
