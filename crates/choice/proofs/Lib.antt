-- Laws of errors with 'none' among them, and of the number of rows that answers a bound, over plain values.
pub mod Errors
pub mod Meeting
pub mod Choosing
