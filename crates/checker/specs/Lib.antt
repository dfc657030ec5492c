-- What is asked of the rows of a slot that are held to its log.
pub mod Found
