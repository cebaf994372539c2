pub mod Std
pub mod OsmId
pub mod VersionFloor
pub mod Interner
pub mod Compact
pub mod Parse
pub mod Sorted
pub mod XmlParse
