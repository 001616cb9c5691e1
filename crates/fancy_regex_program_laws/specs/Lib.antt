pub mod ProgramLaws
pub mod KeptLaws
pub mod LayoutLaws
