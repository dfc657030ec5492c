-- What the program prints, and what it means to put text into a buffer.
pub mod Text
pub mod Put
