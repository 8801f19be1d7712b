pub mod Cuts
pub mod Digits
pub mod Lexing
pub mod Readings
mod Running
mod Saying
mod Handing
mod Carrying
mod Placing
mod Turning
mod Starting
mod Order
mod Whole
