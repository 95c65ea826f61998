mod Chunks
pub mod Places
