pub mod Reply
pub mod Search
pub mod Stage
pub mod Stream
pub mod Next
pub mod LengthLaws
pub mod LineLaws
pub mod Faults
