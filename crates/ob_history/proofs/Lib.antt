pub mod Calls
pub mod First
pub mod Histories
pub mod Lists
pub mod Own
pub mod Staying
pub mod Told
