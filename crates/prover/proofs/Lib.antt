-- `Laws` has the laws of this crate; `Demands` is the user's third demand, about the answers that the code gives.
pub mod Laws
pub mod Demands
