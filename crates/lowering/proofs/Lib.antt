mod Sums
mod Positions
mod Explains
mod Grows
mod Along
mod Walk
mod Valued
mod Core
mod Matrices
mod Entries
mod Ranges
mod Gates
pub mod Law
pub mod Figures
