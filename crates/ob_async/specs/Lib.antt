pub mod Inside
pub mod Sources
pub mod Waiting
