use Rattle.std.proofs.Common.{◌≡◌, ◌+◌, ◌-◌, ◌++◌}
use Rattle.exec_map.specs.Contents.{program_of}
use Rattle.code_view.specs.Code.{word_lines}
use Rattle.code_view.proofs.view.CodeView.push_word_lines.Given as goal

-- the lines that are to come, behind those that there are, make the whole
abbrev pub invariant-loop-k : goal.invariant-loop-k
invariant-loop-k l =
    l.out.items ++ word_lines (program_of l.self.program.now) l.own l.self.image.now (l.number + l.k) (l.words - l.k)
    ≡ l.initial.out.items ++ word_lines (program_of l.self.program.now) l.own l.self.image.now l.number l.words
