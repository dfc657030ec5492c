-- The paper's worked cases, shown of the definitions.
pub mod Page
pub mod Tail
pub mod Cases
pub mod WindowCases
pub mod TwinCases
pub mod OrderCases
pub mod WidthCases
pub mod LookupCases
