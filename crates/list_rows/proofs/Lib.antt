mod Again
mod Guarded
