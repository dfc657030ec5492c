-- The first frames of a list, with zeros behind them, and the laws of scenes.
pub mod Padded
pub mod Known
