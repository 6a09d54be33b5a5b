-- Laws, and what code owes.
pub mod Figures
pub mod FitCode
pub mod Latest
pub mod Plots
pub mod Returned
pub mod Rows
pub mod Runs
pub mod Spread
pub mod Sums
