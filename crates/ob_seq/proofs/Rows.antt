-- The rows of a history, and what commands do to them.
pub mod Accepting
pub mod Along
pub mod EachRow
pub mod Fronts
pub mod History
pub mod Limits
pub mod Order
pub mod RowByRow
pub mod Told
