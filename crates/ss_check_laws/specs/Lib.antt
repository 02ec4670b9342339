pub mod Links
pub mod BodyLaws
pub mod SizeLaws
pub mod ProgramLaws
