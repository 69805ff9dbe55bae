pub mod TestsAgree
pub mod BitmapTest
pub mod FateGrounds
pub mod CargoFrames
