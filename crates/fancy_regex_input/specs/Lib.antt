pub mod Configs
pub mod ConfigViews
pub mod SearchInputs
