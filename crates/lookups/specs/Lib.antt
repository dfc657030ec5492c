-- What the search for a pair's row is promised by.
pub mod Ends
