-- A query's questions in parts, and the rows of the reduction that answers it.
pub mod Ahead
pub mod Answering
pub mod Reducing
