-- What the promises of this crate say, in words of its own beside those of crate meaning.
pub mod Function
pub mod Hash
pub mod Table
pub mod Scratch
pub mod State
pub mod Count
