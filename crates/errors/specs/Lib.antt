-- What a block costs.
pub mod Filled
