pub mod Cover
pub mod Budgeted
pub mod Inside
