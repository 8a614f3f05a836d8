mod Dated
mod Gathered
mod Listed
mod Said
mod Twice
