-- Laws of windows every so many frames, of scenes and rules, of rows in a listing, and of windows that records meet or do not.
pub mod Beats
pub mod Rules
pub mod Listings
pub mod Meeting
