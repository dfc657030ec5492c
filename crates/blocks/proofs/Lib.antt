-- Laws of block totals.
pub mod Bounds
