pub mod Measure
pub mod Within
pub mod Lowering
pub mod Left
pub mod TaskLowering
pub mod FetchLowering
pub mod FollowersLeft
pub mod Settles
