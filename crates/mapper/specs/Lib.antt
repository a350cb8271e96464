pub mod Words
pub mod Translation
pub mod View
