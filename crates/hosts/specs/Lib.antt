pub mod CoordinatorHosts
pub mod Counts
pub mod DeviceHosts
pub mod HeldSuperframes
