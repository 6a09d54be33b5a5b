-- Laws, and what code owes.
pub mod Figures
pub mod Table
