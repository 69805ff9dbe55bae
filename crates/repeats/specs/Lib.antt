pub mod BitAndRepeatTimeslots
pub mod Bitmaps
pub mod Starts
pub mod Laws
