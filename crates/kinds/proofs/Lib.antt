pub mod ByBytes
pub mod Packing
pub mod Spelling
pub mod Writing
