pub mod CoreLines
pub mod CoreRows
pub mod DriveLines
pub mod DriveRows
pub mod Entered
pub mod RunLines
pub mod RunRows
