-- Laws of the places, and that a table sees no more of errors and gaps than those of blocks that cross no gap.
pub mod Starts
pub mod Agreeing
