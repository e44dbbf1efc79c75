-- What the promises of this crate say, beyond the definitions of crate meaning.
pub mod Row
pub mod Bit
pub mod Add
