-- Laws, and what code owes.
pub mod Accepting
pub mod Chosen
pub mod Clearances
pub mod First
pub mod Prepared
pub mod SearchCode
pub mod Searched
pub mod SeedCode
pub mod Seeded
pub mod Smallest
