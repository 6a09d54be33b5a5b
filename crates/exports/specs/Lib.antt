-- The C exports' arguments and answers, as lists of words (docs/COMPARISON.md).
pub mod Answers
pub mod Arguments
pub mod Asked
pub mod Picture
pub mod Plots
