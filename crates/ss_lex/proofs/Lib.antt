mod Common
pub mod Cutting
pub mod Due
pub mod LineEnds
pub mod Numbers
pub mod Periods
pub mod Reading
pub mod Steps
pub mod Table
pub mod TextLaws
pub mod CodeLines
pub mod Whole
