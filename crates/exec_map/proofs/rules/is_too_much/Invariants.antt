use Rattle.std.proofs.Common.{◌≡◌, ◌≤◌, map, take}
use Rattle.elf32_read.specs.Segments.{segment_of}
use Rattle.exec_map.specs.Refusals.{lines_of_all, line_limit}
use Rattle.exec_map.specs.Index.{is_of_kind}
use Rattle.exec_map.proofs.rules.is_too_much.Given as goal

abbrev pub invariant-loop-s : goal.invariant-loop-s
invariant-loop-s l = record {
  sum : l.lines ≡ lines_of_all (is_of_kind l.writable) (map segment_of (take l.s-index l.all));
  few : l.lines ≤ line_limit;
}
