pub mod Within
pub mod Cost
pub mod Tables
pub mod Called
pub mod Admission
pub mod Requests
