pub mod Lines
pub mod Kinds
pub mod Decode
pub mod Frames
pub mod Spelling
