-- Laws, and what code owes.
pub mod CheckedCode
pub mod Listed
