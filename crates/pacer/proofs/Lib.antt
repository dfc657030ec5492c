-- Laws of the calls' answers.
pub mod Answering
pub mod Refutations
