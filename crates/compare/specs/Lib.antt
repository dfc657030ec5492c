-- What is found of rows beside segments, and the front that is taken off both at each turn.
pub mod Found
pub mod Fronts
