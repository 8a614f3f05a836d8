mod Fitting
mod Numbers
mod Taken
mod Telling
