-- The reduction goes by what blocks that cross no gap cost; what measured segments cost; and the reduction of no segments.
pub mod Sharing
pub mod Measuring
