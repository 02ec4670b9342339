mod Common
mod Rows
