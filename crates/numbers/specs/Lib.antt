-- Numbers of answers (`Numbers`).
pub mod Numbers
