use Rattle.std.proofs.Common.{rules, ◌<◌, ◌≤◌, arith}
use Rattle.std.specs.Prelude.{nat_le}
use Rattle.std.proofs.lemmas.Bool.{leb-true, leb-false}
use Rattle.std.proofs.lemmas.List.Sorted.{IsPartitionPoint-from_clause, IsPartitionedBy-leb}
use Rattle.elf32_read.specs.Segments.{segment_of}
use Rattle.exec_map.specs.Index.{end_line}
use Rattle.exec_map.proofs.Looking.{ends_ascend, at_map}
use Rattle.exec_map.proofs.segments.passed.Goals as goal

pub returns : goal.returns
returns c =
    let xs = c.args.sorted.now in
    let line = c.args.line in
    let at = IsPartitionPoint-from_clause (λ s. nat_le (end_line (segment_of s)) line) xs c.partition_point.result c.partition_point.ensures.partitioned (IsPartitionedBy-leb (λ s. end_line (segment_of s)) xs line (ends_ascend xs c.requires)) (λ a r q k. search rules) in
    record {
      passed = λ k d low high. at_map segment_of xs k d (λ s. end_line s ≤ line) (omega (arith, c.partition_point.ensures.bound)) (λ e. leb-true _ _ (at.0 k e low high));
      ahead = λ k d low high. at_map segment_of xs k d (λ s. line < end_line s) high (λ e. leb-false _ _ (at.1 k e low high));
    }
