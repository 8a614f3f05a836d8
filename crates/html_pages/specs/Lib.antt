pub mod Links
pub mod Labels
pub mod Items
pub mod Pages
pub mod Pedigrees
pub mod Called
pub mod Showing
