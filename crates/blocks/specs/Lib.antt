-- What the code's totals mean.
pub mod Meaning
