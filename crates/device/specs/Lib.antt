pub mod Meaning
pub mod Sized
pub mod Kinds
