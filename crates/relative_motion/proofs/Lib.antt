-- Laws, and what code owes.
pub mod Finite
pub mod PlotCode
pub mod Plots
pub mod Sizes
pub mod Tracks
