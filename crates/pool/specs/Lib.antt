pub mod Node
pub mod Tree
pub mod Owners
pub mod FreeList
pub mod Sound
pub mod Held
pub mod Reached
pub mod Puts
