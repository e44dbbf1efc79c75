-- Laws of the code's own vocabulary, by subject.
pub mod Work
pub mod Pair
pub mod Sofar
pub mod Compare
pub mod Rowed
pub mod Quantify
