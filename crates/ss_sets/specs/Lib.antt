pub use Rattle.ss_world.specs.Disciplines
pub mod Walks
