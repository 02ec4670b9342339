pub mod Names
pub mod Tree
pub mod View
pub mod Views
pub mod Nodes
pub mod Examples
