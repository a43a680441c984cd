pub mod Coming
pub mod Controls
pub mod Received
pub mod Rooms
pub mod Taking
