-- Laws on the grid.
pub mod Arcsines
pub mod Arctangents
pub mod Enclosing
pub mod Lower
pub mod Octant
pub mod Placing
pub mod Rescaling
pub mod Scaling
pub mod Searching
pub mod Steps
pub mod Surrounding
pub mod Turning
pub mod Upper
pub mod Worked
