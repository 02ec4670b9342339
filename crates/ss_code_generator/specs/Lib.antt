pub mod Filings
pub mod Emitted
pub mod Calculations
pub mod Notices
pub mod Items
pub mod Spots
pub mod Looped
pub mod Printed
