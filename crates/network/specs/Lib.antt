pub mod Calls
pub mod Deeds
pub mod History
pub mod Runs
pub mod Guarantee
pub mod Example
