-- Laws of the camera: what a series of images does, second by second.
pub mod Images
