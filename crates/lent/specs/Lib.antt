-- What the walker's answers are.
pub mod Walk
