-- Laws of the code's own vocabulary, by subject, each file resting on those above it.
-- the run over all entries
pub mod Run
pub mod Meant
pub mod Turn
-- what is left in the buffers, and the answer
pub mod Left
pub mod Answer
