pub mod Coordinators
pub mod Frames
pub mod OpenSuperframes
pub mod Replying
pub mod Steps
