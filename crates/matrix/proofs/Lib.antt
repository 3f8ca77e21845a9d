pub mod Held
mod Filled
pub mod Order
pub mod Changed
mod Placed
mod Shift
mod Outcomes
pub mod RowSums
