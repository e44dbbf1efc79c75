-- What the promises of this crate say, beyond the definitions of crate meaning.
pub mod Refusal
pub mod Followed
pub mod Value
pub mod Witness
