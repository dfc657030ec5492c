-- What is promised of a query and its reader together.
pub mod Promises
