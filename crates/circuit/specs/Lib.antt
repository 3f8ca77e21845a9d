pub mod Bulletproofs
pub mod Verdict
