pub mod Sheet
pub mod Calls
pub mod Runs
pub mod Law
pub mod Shown
