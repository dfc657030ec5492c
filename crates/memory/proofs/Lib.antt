-- Arrays of records whose last frames are moved one after the other.
pub mod Moving
