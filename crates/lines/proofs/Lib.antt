pub mod LineParts
pub mod CodeWords
pub mod LastLines
