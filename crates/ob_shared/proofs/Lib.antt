pub mod Calling
pub mod Finishing
pub mod HandedIn
pub mod Publishing
pub mod Seats
