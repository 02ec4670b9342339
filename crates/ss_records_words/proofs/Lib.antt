mod Common
pub mod Disjoint
pub mod Filed
pub mod Listing
pub mod Makings
pub mod Planning
pub mod ReadBack
pub mod Splice
pub mod Tied
pub mod ValueWords
