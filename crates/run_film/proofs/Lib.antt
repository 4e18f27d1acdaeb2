pub mod Films
pub mod Paired
pub mod Places
pub mod FilmTexts
pub mod Pages
pub mod Tracks
mod RowsFilms
mod RowsPlayed
