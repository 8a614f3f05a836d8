mod Cutting
mod Kept
mod Settled
mod Below
mod Finished
