-- Laws of the code's arrays, of lists of questions, and of the log's bytes.
pub mod Columns
pub mod Asking
pub mod Bytes
