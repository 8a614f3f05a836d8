mod Foreseen
mod Written
