pub mod Alike
pub mod Stepping
mod Growing
mod Performed
pub mod Built
pub mod Witnesses
mod Holding
mod OnTheWay
pub mod Law
