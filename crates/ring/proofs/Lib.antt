pub mod Inverses
pub mod Laws
pub mod Modular
