mod Common
pub mod Tools
pub mod Depth
pub mod Marks
pub mod ReaderLaws
pub mod Rows
pub mod Lists
pub mod Beginnings
pub mod Factors
pub mod Sums
pub mod WordLaws
pub mod PlaceLaws
pub mod References
pub mod ConditionLaws
pub mod HeadLaws
