pub mod LayoutLemmas
pub mod RoomLemmas
pub mod ReadingFields
pub mod ReadingSegments
pub mod ReadingSections
pub mod ReadBack
pub mod Law
