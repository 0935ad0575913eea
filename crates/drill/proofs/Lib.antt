pub mod Coming
pub mod Playing
