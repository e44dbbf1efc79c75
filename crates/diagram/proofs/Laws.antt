-- Laws of the code's own vocabulary, by subject, each file resting on those above it.

-- truth tables, places in scratch, how a node lies in the table
pub mod Function
pub mod Hash
pub mod Cells
pub mod Nodes
-- states and the steps between them
pub mod After
-- find or add a node
pub mod Index
pub mod Cover
pub mod Begin
pub mod Grow
pub mod Node
-- the step and the quantifier step, with their memo
pub mod Parts
pub mod Memo
pub mod Enters
pub mod Step
pub mod Quantify
-- the count by marks
pub mod Mark
pub mod Count
pub mod Visit
