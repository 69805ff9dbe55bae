pub mod Grammar
pub mod LineOf
pub mod Reading
pub mod Spelling
