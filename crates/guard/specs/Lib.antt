pub mod Guard
