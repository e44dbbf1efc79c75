-- What the promises of this crate say, beyond the definitions of crate meaning.
pub mod Kept
pub mod Answer
