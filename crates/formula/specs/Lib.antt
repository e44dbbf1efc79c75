-- What the promises of this crate say, beyond the definitions of `meaning`.
pub mod Pair
pub mod Compare
