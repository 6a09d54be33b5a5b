-- Laws, and what code owes.
pub mod Arcsines
pub mod Arctangents
pub mod BisectionCode
pub mod Octants
pub mod Sizes
