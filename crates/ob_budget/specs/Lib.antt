pub mod Bounds
pub mod Account
pub mod Ruled
pub mod Calls
