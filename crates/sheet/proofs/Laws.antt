-- Theorems about the definitions, by subject.
pub mod Kind
pub mod Contents
pub mod Sheet
pub mod Operands
pub mod Widths
pub mod Level
pub mod Check
pub mod Passed
