pub mod Beginning
pub mod Joining
pub mod Owning
pub mod Putting
pub mod Refusing
