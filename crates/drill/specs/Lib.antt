pub mod Drill
pub mod Printed
pub mod Words
