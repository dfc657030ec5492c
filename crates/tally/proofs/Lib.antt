-- Laws of the records of one group.
pub mod Stops
pub mod Loads
