-- What the calls promise, and the laws of digits and labels.
pub mod Digits
pub mod Label
