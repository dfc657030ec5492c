-- The laws that the proofs of the functions cite.
pub mod Putting
pub mod Digits
pub mod Lines
pub mod Widths
pub mod Lengths
