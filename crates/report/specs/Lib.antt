-- From a sheet's bytes to the lines that the program prints.
pub mod Before
pub mod Contacts
pub mod Plain
pub mod Reading
pub mod Report
