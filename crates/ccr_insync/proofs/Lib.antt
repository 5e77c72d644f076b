pub mod MemberLists
pub mod Kept
