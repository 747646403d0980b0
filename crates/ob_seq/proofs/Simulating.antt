-- Each step simulates its command.
pub mod Removed
pub mod Simulated
pub mod Kept
pub mod Simulation
