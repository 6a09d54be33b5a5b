-- C exports of the leaves and of the six functions, for the comparison with the Rust.
pub mod Time
