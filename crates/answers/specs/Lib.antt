-- The fields of the C answers.
pub mod Fields
