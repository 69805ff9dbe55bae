pub mod ImagesAreReadBack
