-- track.rs: the window of a contact's last plots, runs of plots, and the motion that is fitted.
pub mod Beside
pub mod Fit
pub mod Limits
pub mod Plot
pub mod Run
pub mod Spread
pub mod Window
