pub mod TallyCounts
pub mod TallyPlaces
pub mod Masks
pub mod Kept
pub mod Judging
mod Laying
mod Begun
mod JudgeSteps
mod Visits
mod RowsRefused
