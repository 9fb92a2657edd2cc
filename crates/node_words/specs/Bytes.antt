-- Helps the code alone: the number that bytes make, for the functions that unfold it.
unfoldable pub use Rattle.node_memory.specs.byte_range.Memory.{raw}
