pub mod Drive
pub mod Inside
pub mod Report
pub mod Threads
