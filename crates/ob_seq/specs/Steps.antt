-- What one call does to what a buffer holds, step by step. Of public clauses those of `Contents` cite them.
pub mod Commands
pub mod Step
pub mod Within
