mod Digits
mod Lines
mod Walking
mod Along
mod Silent
mod Showing
