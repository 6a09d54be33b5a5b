-- Laws, and what code owes.
pub mod HypotBound
pub mod HypotCode
pub mod HypotSize
pub mod NearestSqrt
pub mod SqrtCode
pub mod SqrtSize
pub mod WholeRoots
