-- What a sheet's text says (`Read`), and the laws of it.
pub mod Read
pub mod ReadLaws
