-- Laws, and what code owes.
pub mod Climbing
pub mod Listed
pub mod Step
pub mod StepRows
