mod Summing
mod Known
mod Costing
mod Ordering
mod Texts
mod Writing
mod Hexadecimal
mod Passing
