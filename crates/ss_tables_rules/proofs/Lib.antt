mod Common
mod Finding
mod Repeats
mod Foreign
