pub mod Due
pub mod EndPace
pub mod Funnel
pub mod Held
pub mod Lines
pub mod Rest
