pub mod ValidTables
pub mod Laws
