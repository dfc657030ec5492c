-- The law of the walker's answers, and what the proofs of the list's functions cite.
pub mod Walks
pub mod Filling
