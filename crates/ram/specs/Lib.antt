pub mod Image
pub mod Battery
