pub mod Events
pub mod Inside
pub mod Managed
pub mod Strain
pub mod Worked
