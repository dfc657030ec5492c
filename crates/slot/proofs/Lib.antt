-- The laws that the functions' proofs cite, and what an accepted slot has.
pub mod Answers
pub mod Compared
