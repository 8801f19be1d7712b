pub mod Instant
pub mod Instants
pub mod Lexical
pub mod Name
pub mod Packed
pub mod Range
pub mod Reading
pub mod Readings
