pub mod Cells
pub mod Laws
pub mod Matrix
pub mod Places
pub mod Table
