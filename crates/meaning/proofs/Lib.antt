-- `Cases` are 01's worked examples, computed from bytes to answer; `Laws` are theorems about the definitions, by subject;
-- `Demands` is the user's third demand in one screen.
pub mod Cases
pub mod Laws
pub mod Demands
