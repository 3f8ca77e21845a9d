mod Dots
mod DenseRows
mod Filled
mod Running
pub mod Form
