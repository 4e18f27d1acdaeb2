pub mod Lengths
pub mod Colours
pub mod Drawn
pub mod Spelling
pub mod Xml
pub mod Grouped
