pub mod Draw
pub mod Summary
pub mod Telling
pub mod Traces
