mod Growing
mod NoMarks
mod Tags
