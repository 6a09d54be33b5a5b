-- Laws, and what code owes.
pub mod Bound
pub mod Division
pub mod Horner
pub mod Near
pub mod Reduced
pub mod Reduction
pub mod Rise
pub mod Same
pub mod SineCode
pub mod Sizes
pub mod Slope
pub mod Sums
pub mod Symmetry
pub mod TaylorCode
pub mod Values
pub mod Worked
