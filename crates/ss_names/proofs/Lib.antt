mod Common
mod Short
mod Fields
mod Sets
mod Clashes
mod Passes
mod Steps
