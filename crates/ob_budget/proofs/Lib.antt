pub mod Sums
pub mod Words
pub mod Moves
pub mod Seats
pub mod Tries
pub mod Ends
