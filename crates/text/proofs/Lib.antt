-- Laws, and what code owes.
pub mod Appending
pub mod Corners
pub mod Digits
pub mod Held
pub mod Joined
pub mod Places
pub mod Printed
pub mod Value
