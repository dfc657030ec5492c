-- Where a slot's rows stand, and what the code's numbers stand for.
pub mod Places
