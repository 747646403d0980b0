pub mod Cut
pub mod Flushing
pub mod GivenUp
pub mod Pieces
pub mod Serving
pub mod Handing
