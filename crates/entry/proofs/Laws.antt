-- Laws of the code's own vocabulary, by subject, each file resting on those above it.
-- one entry: what its kind says of it, and what an operation makes of it
pub mod Entry
pub mod Kinds
-- a variable's levels and nodes
pub mod Levels
