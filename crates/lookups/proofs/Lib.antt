-- The questions of many lookups one by one, the search for a row, and what the call leaves in its lists.
pub mod Pairs
pub mod Halving
pub mod Found
pub mod Left
