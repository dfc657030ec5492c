-- Laws of the cuts read back, and of the answer that is made of them, over plain values.
pub mod Reading
pub mod Answering
