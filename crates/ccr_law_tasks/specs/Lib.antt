pub mod GoodTask
pub mod TaskLaws
pub mod GoodFollowers
pub mod FollowerLaws
pub mod FromOn
pub mod Asking
