pub mod Power
pub mod Causes
pub mod Inputs
pub mod Commands
pub mod View
