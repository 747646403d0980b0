pub mod Inside
pub mod Pass
pub mod Sent
pub mod Worked
