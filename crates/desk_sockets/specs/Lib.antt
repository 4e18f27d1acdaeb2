pub mod DeskSockets
