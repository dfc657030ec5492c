-- The blocks and rows between cuts.
pub mod Between
