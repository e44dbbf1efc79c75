-- What the promises of this crate say, beyond the definitions of crate meaning.
pub mod Value
pub mod Entry
pub mod Rows
