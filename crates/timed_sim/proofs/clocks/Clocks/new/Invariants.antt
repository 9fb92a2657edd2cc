use Rattle.std.proofs.Common.{◌≡◌, ℕ, ◌≤◌, length}
use Rattle.std.specs.Vec.{vec_capacity}
use Rattle.std.specs.Prelude.{slice_index_or}
use Rattle.dsm_core.specs.dsm_messages.declared.messages.Need.TheVariants.{Read}
use Rattle.timed_sim.specs.Clock.{nothing_spent}
use Rattle.timed_sim.proofs.clocks.Clocks.new.Given as goal

abbrev pub invariant-loop-node : goal.invariant-loop-node
invariant-loop-node l = record {
  spent : length l.spent.items ≡ l._node;
  needs : length l.needs.items ≡ l._node;
  room : l.count ≤ vec_capacity l.spent;
  space : l.count ≤ vec_capacity l.needs;
  nothing : (k : ℕ) → slice_index_or l.spent.items k nothing_spent ≡ nothing_spent;
  reads : (k : ℕ) → slice_index_or l.needs.items k Read ≡ Read;
}
