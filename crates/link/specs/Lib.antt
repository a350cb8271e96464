pub mod Stream
pub mod View
