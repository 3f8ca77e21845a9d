pub mod Entries
pub mod WorkingOut
pub mod Calling
pub mod Asking
pub mod Natives
