pub mod Growth
pub mod Sizes
pub mod Calling
pub mod Asking
