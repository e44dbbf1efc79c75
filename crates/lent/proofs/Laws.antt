-- Laws of the code's own vocabulary, by subject, each file resting on those above it.
pub mod Refusal
pub mod Followed
pub mod Value
pub mod Witness
