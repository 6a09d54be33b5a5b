-- The ruled search, whose contract holds demand 3.
pub mod Before
pub mod Demand3
pub mod Held
pub mod Ruled
