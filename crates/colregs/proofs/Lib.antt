-- Laws, and what code owes.
pub mod Departing
pub mod Departures
pub mod Reliable
pub mod ResponsibilityCode
pub mod Rows
pub mod RulesCode
pub mod Settled
pub mod Slowing
pub mod ToWindward
pub mod Trying
