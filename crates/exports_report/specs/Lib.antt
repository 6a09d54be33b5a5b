-- What the C interface writes.
pub mod Written
