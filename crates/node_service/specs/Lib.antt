pub mod Deeds
pub mod Answers
pub mod Clients
pub mod NotesView
pub mod Noting
pub mod Pieces
pub mod Services
pub mod Serving
