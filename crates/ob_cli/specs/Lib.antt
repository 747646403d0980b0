pub mod Drive
pub mod Inside
pub mod More
pub mod Request
pub mod Run
pub mod Turns
