pub mod ConfText
