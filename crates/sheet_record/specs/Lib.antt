-- A sheet's words, its record of whole numbers, and the record's bytes.
pub mod Encode
pub mod Record
pub mod Word
