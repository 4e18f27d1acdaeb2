pub use Rattle.socket_links.specs as socket_links
pub mod Doors
pub mod Greetings
pub mod Arrivals
pub mod Ports
pub mod LinkSights
pub mod Loose
pub mod Hearing
pub mod Speaking
pub mod Clients
pub mod Heard
pub mod Lives
pub mod Ends
pub mod Said
