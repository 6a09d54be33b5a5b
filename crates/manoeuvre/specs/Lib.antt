-- What a manoeuvre may be and what it says: constraints, the trial list, the answer.
pub mod Constraints
pub mod Manoeuvre
pub mod Step
pub mod Trials
