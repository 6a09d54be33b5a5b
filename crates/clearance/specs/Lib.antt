-- The traffic, how one contact passes on a course, and whether a course clears it all.
pub mod Clearing
pub mod Contact
pub mod Traffic
