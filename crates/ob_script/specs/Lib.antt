pub mod Inside
pub mod Reading
pub mod Tracing
