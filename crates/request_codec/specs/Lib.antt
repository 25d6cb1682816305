pub mod Digits
pub mod Form
pub mod Fronts
pub mod Gathered
pub mod Lines
pub mod Sending
pub mod Text
pub mod Words
