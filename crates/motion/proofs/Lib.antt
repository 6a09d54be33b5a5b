-- Laws, and what code owes.
pub mod ArgumentCode
pub mod Counts
pub mod Lists
pub mod Made
