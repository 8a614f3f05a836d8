mod AfterReport
mod Alike
mod Aloud
mod Blamed
mod Days
mod Foregoing
mod Hiding
mod PlainRuns
mod Publishing
pub mod Quiet
mod Reported
mod Whole
