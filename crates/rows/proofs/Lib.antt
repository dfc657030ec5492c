-- Laws of the blocks and rows between cuts, over plain values.
pub mod Cut
