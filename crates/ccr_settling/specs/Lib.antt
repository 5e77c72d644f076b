pub mod Next
pub mod Served
pub mod Still
pub mod Idle
pub mod Grounds
