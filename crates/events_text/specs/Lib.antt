pub mod EventLine
pub mod EventsText
pub mod EventLaws
