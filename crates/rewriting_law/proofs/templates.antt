-- What the words of each template do, beside the processor whose step they make.
pub mod RegisterLemmas
pub mod States
pub mod Does
pub mod Mids
pub mod Checked
pub mod StateChecks
pub mod Atomics
pub mod Conditionals
pub mod Flagged
pub mod Templates
