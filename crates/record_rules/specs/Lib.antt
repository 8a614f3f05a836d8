pub mod Judged
pub mod Lines
pub mod Archives
pub mod ExampleJudged
pub mod Rules
