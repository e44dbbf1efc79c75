-- Theorems about the definitions, by subject.
pub mod Decimal
pub mod Value
pub mod Entry
pub mod Written
pub mod Listing
pub mod Answered
pub mod Input
