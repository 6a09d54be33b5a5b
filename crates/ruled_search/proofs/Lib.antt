-- Laws, and what code owes.
pub mod Accepted
pub mod Answering
pub mod AsBefore
pub mod Contacts
pub mod Demanded
pub mod HeldThere
pub mod RuledCode
pub mod Shared
