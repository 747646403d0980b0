pub mod Inside
pub mod Laid
pub mod Rows
pub mod Simulating
pub mod UserBits
pub mod Word
pub mod Words
