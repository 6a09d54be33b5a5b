-- Laws, and what code owes.
pub mod ClearsCode
pub mod Held
pub mod Loops
