-- A printed line, and bytes put at a place of a lent buffer.
pub mod Lines
pub mod Laid
