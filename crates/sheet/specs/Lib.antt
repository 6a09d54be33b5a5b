-- What a sheet's numbers stand for, and its checks in their order.
pub mod Accepted
pub mod Before
pub mod Exactly
pub mod Limits
pub mod RoundTrip
pub mod Sheet
pub mod Values
