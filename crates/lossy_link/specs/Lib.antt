pub mod Sender
pub mod Receiver
pub mod Packets
pub mod Runs
