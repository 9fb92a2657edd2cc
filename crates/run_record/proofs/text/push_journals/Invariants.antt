use Rattle.std.proofs.Common.{◌≡◌, ◌++◌, drop}
use Rattle.run_record.specs.Lists.{items_of}
use Rattle.run_record.specs.Text.{journal_lines}
use Rattle.run_record.proofs.text.push_journals.Given as goal

-- the lines that are to come, behind those that there are, make the whole
abbrev pub invariant-loop-node : goal.invariant-loop-node
invariant-loop-node l =
    l.text.items ++ journal_lines l.version l.node (items_of (drop l.node l.journals))
    ≡ l.initial.text.items ++ journal_lines l.version 0 (items_of l.journals)
