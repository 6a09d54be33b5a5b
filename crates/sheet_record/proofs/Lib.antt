-- Laws, and what code owes.
pub mod EncodeCode
pub mod RecordCode
pub mod WordCode
