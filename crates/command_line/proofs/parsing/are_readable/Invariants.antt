use Rattle.std.proofs.Common.{drop, ◌↔◌}
use Rattle.command_line.specs.Reading.{AreReadable}
use Rattle.command_line.proofs.parsing.are_readable.Given as goal

-- the words are readable exactly where those that are left are
abbrev pub invariant-loop-word : goal.invariant-loop-word
invariant-loop-word l = AreReadable (drop l.word-index l.words) ↔ AreReadable l.words
