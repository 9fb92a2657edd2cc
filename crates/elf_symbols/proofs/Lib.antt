mod Finding
mod Tables
