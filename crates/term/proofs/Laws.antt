-- Laws of the code's own vocabulary, by subject, each file resting on those above it.

-- rows over n levels
pub mod Levels
pub mod Rows
-- moved bits
pub mod Places
pub mod Moved
-- place by place
pub mod Bit
pub mod Bitwise
-- addition, and what is made of it
pub mod Count
pub mod Sum
pub mod OnePlace
pub mod Add
pub mod Multiply
