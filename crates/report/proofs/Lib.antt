-- Laws, and what code owes.
pub mod Accepted
pub mod Answered
pub mod Before
pub mod ReportCode
pub mod Reports
pub mod Whole
