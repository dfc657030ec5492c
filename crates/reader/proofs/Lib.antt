-- One turn of each loop, and what walk and lookup have in common with the reader.
pub mod Steps
pub mod Walk
