pub mod States
pub mod Registers
