-- What the functions of this crate give, where the paper's own definitions have no name for it.
pub mod Listed
