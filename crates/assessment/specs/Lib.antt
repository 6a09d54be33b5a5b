-- assessment.rs: limits, risk, the assessment of one contact, the collision picture.
pub mod Assess
pub mod Drift
pub mod MostDangerous
pub mod Picture
pub mod Policy
pub mod Risk
pub mod Target
