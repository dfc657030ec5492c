-- What the contracts of the C interface promise.
pub mod Promises
