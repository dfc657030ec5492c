-- Errors with 'none' among them, and what a bound asks of errors by row count.
pub mod Errors
pub mod Bounds
pub mod Columns
