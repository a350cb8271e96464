pub mod Sockets
pub mod View
