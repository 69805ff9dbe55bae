pub mod Devices
pub mod Configurations
pub mod Phases
pub mod Beacons
pub mod Fates
pub mod Steps
