-- The keys of records.
pub mod Keys
