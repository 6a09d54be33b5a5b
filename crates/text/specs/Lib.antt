-- Text within a fixed room: bytes, whole numbers, quantities with three decimals.
pub mod Decimal
pub mod Held
pub mod Line
pub mod Number
pub mod Text
pub mod Thousandths
