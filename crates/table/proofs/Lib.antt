-- Laws of a cell's scan and of the table as it is filled, over plain values.
pub mod Scan
pub mod Filling
pub mod Steps
