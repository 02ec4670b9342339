mod Whole
mod Sections
mod Nodes
mod Alike
mod Made
mod Deeper
