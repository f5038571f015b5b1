-- The camera's fields and its two series of images: 01, "Bench, seconds and macros"; and how many pictures a series takes: 02, Q-8.
pub mod Series
pub mod Camera
pub mod Pictures
