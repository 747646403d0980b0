pub mod Inside
pub mod Step
pub mod Turn
pub mod Worked
pub mod World
