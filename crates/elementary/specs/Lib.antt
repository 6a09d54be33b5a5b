-- The refusals, and the six elementary functions in refusing form.
pub mod Checked
pub mod Range
pub mod Refusal
