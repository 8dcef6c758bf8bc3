pub mod Hands
pub mod Serving
pub mod Rooms
pub mod Covering
