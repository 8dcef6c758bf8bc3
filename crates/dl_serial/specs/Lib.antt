pub mod Arguments
pub mod Frames
pub mod Growth
pub mod Progress
pub mod Refusing
pub mod Rooms
pub mod Serving
