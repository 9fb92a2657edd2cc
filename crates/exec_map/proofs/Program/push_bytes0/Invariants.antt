use Rattle.std.proofs.Common.{◌≡◌, ◌++◌}
use Rattle.exec_map.specs.Contents.{first_bytes}
use Rattle.exec_map.proofs.Program.push_bytes0.Given as goal

abbrev pub invariant-loop-place : goal.invariant-loop-place
invariant-loop-place l = l.out.items ≡ l.initial.out.items ++ first_bytes l.self l.address l.place
