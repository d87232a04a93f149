pub mod HeadSealing
