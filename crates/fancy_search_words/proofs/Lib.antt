pub mod Apps
pub mod Numbers
pub mod Rows
pub mod Taken
