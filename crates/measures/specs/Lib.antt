-- Segments in arrays, as what is measured of them.
pub mod Held
