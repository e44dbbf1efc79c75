-- `Laws` are theorems about the definitions, by subject.
pub mod Laws
