-- Laws of runs and of blocks that grow, over plain values.
pub mod Gapped
pub mod Growing
