pub mod Calls
pub mod Inside
pub mod Ruled
pub mod Run
pub mod Worked
