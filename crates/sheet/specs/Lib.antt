-- What the code's numbers and answers stand for.
pub mod Kind
pub mod Laid
pub mod Entry
pub mod Level
pub mod Answer
pub mod Checked
