-- Laws of joined spans and of the arrays that they are stored in, and of the stretches between events.
pub mod Joining
pub mod Storing
pub mod Stretches
pub mod Groups
