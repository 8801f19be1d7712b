pub mod Numbers
pub mod Outcomes
pub mod Texts
pub mod Layouts
