mod Common
pub mod EntryOrder
pub mod Heaps
pub mod Exchanging
pub mod Lists
pub mod Times
pub mod Marks
pub mod HeadsAndFollowers
pub mod Parts
pub mod Seen
pub mod Swapped
pub mod Released
pub mod Removed
pub mod Advanced
pub mod Gone
pub mod Joined
pub mod Grown
pub mod Pushed
