pub mod Axis
pub mod SummaryLines
