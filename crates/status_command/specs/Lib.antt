pub mod NoticeText
pub mod Answering
pub mod Asking
pub mod Shown
pub mod Windows
pub mod Reasons
