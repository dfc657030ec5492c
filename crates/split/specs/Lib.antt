-- What the functions that share rows out ask and promise.
pub mod Ready
