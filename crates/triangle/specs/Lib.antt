-- Where the error of each block stands, and what is asked of errors and gaps.
pub mod Places
pub mod Costs
