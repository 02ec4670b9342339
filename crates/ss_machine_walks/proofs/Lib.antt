mod Common
pub mod Walking
pub mod Inside
pub mod Turns
pub mod Alike
pub mod Sifting
