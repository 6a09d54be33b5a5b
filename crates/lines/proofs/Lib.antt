-- Laws, and what code owes.
pub mod Short
