use Rattle.std.proofs.Common.{◌+◌, ◌≤◌, []}
use Rattle.arrayvec.specs.ArrayVec.{array_vec_len}
use Rattle.templates.specs.Code.{code_of}
use Rattle.templates.specs.Runs.{code_from}
use Rattle.templates.specs.Sequences.{run_items}
use Rattle.templates.specs.Writing.{IsLonger}
use Rattle.templates.proofs.batches.push_run.Given as goal

abbrev pub invariant-loop-k : goal.invariant-loop-k
invariant-loop-k l = record {
  words : IsLonger l.fn.sequence.items l.sequence.items (run_items (code_from (code_of l.code) l.address l.k) []);
  count : array_vec_len l.sequence ≤ array_vec_len l.fn.sequence + l.k;
}
