pub mod SegmentLaws
pub mod PlaceLaws
pub mod WritingLaws
