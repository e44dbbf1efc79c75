-- What the flattened answers say.
pub mod Flat
