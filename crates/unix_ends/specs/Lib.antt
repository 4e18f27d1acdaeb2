pub mod InputSights
