-- Laws, and what code owes.
pub mod Beside
pub mod Chosen
pub mod Computed
pub mod Demanded
pub mod Permitted
pub mod Rows
pub mod SlowingCode
pub mod Speeds
