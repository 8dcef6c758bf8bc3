pub mod Added
pub mod Forest
pub mod HiddenCount
pub mod Legal
pub mod Names
pub mod Order
pub mod Rising
pub mod Sealing
mod StartHeap
pub mod Starting
