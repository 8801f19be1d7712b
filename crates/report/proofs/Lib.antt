mod LineText
pub mod Writing
