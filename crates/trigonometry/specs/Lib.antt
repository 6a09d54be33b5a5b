-- Sine and cosine, by Taylor's sums in whole units of 2^-58.
pub mod Angle
pub mod Sine
pub mod Taylor
pub mod Units
