-- Theorems about the definitions, by subject, each file resting on those above it.

-- what is reduced and ordered; plain bits; how rows and pairs stand to the truth
pub mod Shape
pub mod Plain
pub mod Fits
-- numbers and bit-vectors at every width
pub mod Number
pub mod BitVector
-- diagrams, and the laws of the code's recursive step
pub mod Diagram
pub mod Apply
-- the node table, lent tables, value and witness
pub mod Table
pub mod Lent
pub mod Value
pub mod Witness
-- sheets that pass the check
pub mod Over
pub mod Level
pub mod Checked
-- each operation: right where it is known, never worse for knowing more, exact where nothing is cut
pub mod Row
pub mod Bitwise
pub mod Add
pub mod Multiply
pub mod Choose
pub mod Formula
pub mod Order
pub mod Uncut
-- whole sheets
pub mod Related
pub mod Run
pub mod Exact
pub mod Held
pub mod Reached
pub mod Solve
pub mod Verdict
