-- What a replayed record says.
pub mod Record
