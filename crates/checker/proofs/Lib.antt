-- The questions of the check in parts.
pub mod Asking
