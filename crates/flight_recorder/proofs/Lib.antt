mod Files
mod Fronts
mod Rows
