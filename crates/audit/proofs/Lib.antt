pub mod Loops
pub mod Rising
pub mod BeforeAll
pub mod Inside
pub mod Below
pub mod Broken
pub mod Whole
