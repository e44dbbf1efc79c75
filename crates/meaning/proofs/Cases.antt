-- Cases: what is asked, what is wanted, and that the definitions give it. Each list of cases is one statement, proved by
-- computing from the sheet's bytes.
--
-- Wanted values stand in 01, or follow from it by hand, or come from tests/oracle.py, which was written from 01 alone.
pub mod Asked
pub mod Starred
pub mod Unknown
pub mod Refusals
pub mod Lent
