pub mod Sections
pub mod FilePlan
pub mod FileCode
pub mod Refusals
pub mod Reading
pub use Rattle.rewriter.specs.check_plan as check_plan
pub use Rattle.rewriter.specs.jump_map as jump_map
pub use Rattle.rewriter.specs as rewriter
