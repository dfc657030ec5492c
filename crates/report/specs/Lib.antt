-- The program `profile` as a function of what it reads.
pub mod Report
