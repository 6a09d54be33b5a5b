-- COLREGs Rules 12 to 19, after rules.rs: the geometry of a situation, the encounter, who keeps out
-- of the way, what is permitted.
pub mod Before
pub mod Colregs
pub mod Departs
pub mod Geometry
pub mod Log
pub mod Ruling
pub mod Said
pub mod Settled
pub mod Text
