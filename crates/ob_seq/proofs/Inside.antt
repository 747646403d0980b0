-- What a buffer holds, and what its fields say of that.
pub mod Fields
pub mod Gathered
pub mod Held
pub mod LetGo
pub mod Looked
pub mod Rooms
pub mod Runs
pub mod States
pub mod Steps
pub mod Taken
