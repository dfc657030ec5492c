-- Rows and segments walked together.
pub mod Fronts
pub mod Walking
pub mod Costs
pub mod Ends
pub mod Ready
