-- What the code's numbers and arrays stand for.
pub mod Held
