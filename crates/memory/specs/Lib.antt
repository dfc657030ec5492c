-- Records that stand for a log's with a memory.
pub mod Remembered
