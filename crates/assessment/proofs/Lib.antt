-- Laws, and what code owes.
pub mod AssessCode
pub mod Danger
pub mod Drifts
pub mod PictureCode
pub mod RiskCode
