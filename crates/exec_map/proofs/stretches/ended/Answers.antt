use Rattle.std.proofs.Common.{rules}
use Rattle.std.specs.Prelude.{nat_le}
use Rattle.std.proofs.lemmas.Bool.{leb-true, leb-false}
use Rattle.std.proofs.lemmas.List.Sorted.{IsPartitionPoint-from_clause, IsPartitionedBy-leb}
use Rattle.exec_map.proofs.Halving.{ends_ascend}
use Rattle.exec_map.proofs.stretches.ended.Goals as goal

pub returns : goal.returns
returns c =
    let xs = c.args.stretches.now in
    let n = c.args.number in
    let at = IsPartitionPoint-from_clause (λ r. nat_le r.end n) xs c.partition_point.result c.partition_point.ensures.partitioned (IsPartitionedBy-leb (λ r. r.end) xs n (ends_ascend xs c.requires)) (λ a r q k. search rules) in
    record {
      ended = λ k d low high. leb-true _ _ (at.0 k d low high);
      ahead = λ k d low high. leb-false _ _ (at.1 k d low high);
    }
