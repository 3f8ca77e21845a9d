pub mod Book
pub mod Called
pub mod Filled
