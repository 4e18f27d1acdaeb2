mod Nearest
mod Rounds
mod StepRange
mod Rows
