pub mod Committed
pub mod Combination
pub mod Lowering
pub mod Rows
pub mod Outcome
pub mod Columns
pub mod Law
pub mod Figures
