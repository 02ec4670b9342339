mod Common
mod Nested
mod Seen
mod Trees
