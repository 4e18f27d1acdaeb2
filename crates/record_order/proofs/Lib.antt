mod Orders
mod Earliest
mod Rows
