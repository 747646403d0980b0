pub mod Digits
pub mod Lines
pub mod Numbers
pub mod Places
pub mod Results
pub mod Traced
