pub use Rattle.ss_picture.specs.declared.items.Item
pub mod Program
pub mod View
pub mod Views
pub mod WellTyped
pub mod Nodes
pub mod Examples
pub mod Checking
