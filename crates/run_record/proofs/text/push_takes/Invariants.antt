use Rattle.std.proofs.Common.{◌≡◌, ℕ, ◌++◌, drop}
use Rattle.run_record.specs.Record.{AreTakesBehind}
use Rattle.run_record.specs.Text.{take_lines}
use Rattle.run_record.proofs.text.push_takes.Given as goal

-- the lines that are to come, behind those that there are, make the whole
abbrev pub invariant-loop-entry : goal.invariant-loop-entry
invariant-loop-entry l = record {
  lines : l.text.items ++ take_lines l.version l.last (drop l.entry-index l.journal)
      ≡ l.initial.text.items ++ take_lines l.version 0 l.journal;
  behind : (nodes : ℕ) × AreTakesBehind nodes l.last (drop l.entry-index l.journal);
}
