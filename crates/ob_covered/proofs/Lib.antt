pub mod Pending
pub mod Covers
pub mod Written
