mod Carrying
mod Counting
mod Ending
mod Same
mod Untaken
