-- The pieces of a listing.
pub mod Pieces
-- What stands in a lent buffer after a piece was put there.
pub mod Written
-- An answer of solve beside the table that it left.
pub mod Answered
