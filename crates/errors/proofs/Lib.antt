-- A row of the blocks' errors as it is filled, and the rows one after the other.
pub mod Filling
