pub mod History
pub mod Inside
pub mod Worked
