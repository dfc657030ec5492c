-- What a query prepares before it writes.
pub mod Prepared
